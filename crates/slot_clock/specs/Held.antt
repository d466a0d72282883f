-- What the numbers that a slot clock holds mean. Assumes nothing.
use Rattle.std.specs.Prelude.{◌≡◌, ℕ, ◌+◌, ◌<◌, ◌≤◌, max, List, length, slice_index}
use Rattle.tick_machine.specs.Owed.{shown_round}
use Rattle.tick_machine.specs.Lists.{final}
use Rattle.tick_machine.specs.Slots.{own_slots}
use Rattle.slot_clock.specs.declared.held.Held.{Held}
use Rattle.slot_clock.specs.Walk.{ticks_cursor}
use Rattle.slot_clock.specs.State.{SlotState, state_of}

abbrev pub weights_of : Held → List ℕ
weights_of h = h.layout.weights.items

abbrev pub next_of : Held → List ℕ
next_of h = h.next.items

-- its meaning
unfoldable pub held_state : Held → SlotState
held_state h = state_of (weights_of h) h.ticks (shown_round (weights_of h) h.cursor (next_of h))

-- V after k ticks
abbrev pub cursor_after : Held → ℕ → ℕ
cursor_after h k = ticks_cursor (weights_of h) (next_of h) k h.cursor

-- the stamp of a packet of n bytes of session i whose slots are looked for from q on
abbrev pub stamp_from : Held → ℕ → ℕ → ℕ → ℕ
stamp_from h i n q = final 0 (own_slots (weights_of h) i n q)

-- a packet of n bytes of session i may be added, and its slots are looked for from q on
pub record Room (h : Held) (i n q : ℕ) : Type 0 where
  pub known : i < length (weights_of h)
  pub long : 1 ≤ n
  pub short : n ≤ 65535
  pub fits : h.owed + n ≤ 67107840
  pub start : q ≡ max h.cursor (slice_index (next_of h) i)
