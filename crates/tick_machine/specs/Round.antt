-- The ideal round server: it serves one owed slot in each tick. Assumes nothing.
use Rattle.std.specs.Prelude.{ℕ, zero, suc, ◌+◌, max, List, [], ◌∷◌, length, replicate, Some, None, Option, ◌==◌, slice_index, slice_set}
use Rattle.tick_machine.specs.Lists.{total, only, insert_all, final}
use Rattle.tick_machine.specs.Slots.{owner, own_slots}

-- the cursor V; the owed slots, in rising order; for each session one more than the highest slot that it ever got, 0 if it got none
pub record Round : Type 0 where
  pub cursor : ℕ
  pub owed : List ℕ
  pub next : List ℕ

-- at first nothing is owed
abbrev pub fresh_round : List ℕ → Round
fresh_round ws = record { cursor = 0; owed = []; next = replicate (length ws) 0 }

-- the slots that a packet of n bytes of session i gets: its n lowest that are not below V and not below its next
abbrev pub granted : List ℕ → ℕ → ℕ → Round → List ℕ
granted ws i n r = own_slots ws i n (max r.cursor (slice_index r.next i))

-- its stamp: the highest of them
abbrev pub stamp : List ℕ → ℕ → ℕ → Round → ℕ
stamp ws i n r = final 0 (granted ws i n r)

-- session i gets these slots: they become owed
abbrev pub grant : ℕ → List ℕ → Round → Round
grant i got r = record { cursor = r.cursor; owed = insert_all got r.owed; next = slice_set r.next i (final 0 got + 1) }

-- a packet of n bytes of session i is accepted
abbrev pub add : List ℕ → ℕ → ℕ → Round → Round
add ws i n r = grant i (granted ws i n r) r

-- a tick, with these slots owed: the lowest is served, and V becomes its number plus 1; if none is owed, V stands still
abbrev pub serve : List ℕ → Round → Round
serve [] r = record { cursor = r.cursor; owed = []; next = r.next }
serve (q ∷ qs) r = record { cursor = q + 1; owed = qs; next = r.next }

-- a tick of the round server
abbrev pub round_tick : Round → Round
round_tick r = serve r.owed r

-- k ticks
abbrev pub round_ticks : ℕ → Round → Round
round_ticks zero r = r
round_ticks (suc k) r = round_tick (round_ticks k r)

-- the slot that a tick serves, with these slots owed
abbrev pub served_slot : List ℕ → Option ℕ
served_slot [] = None
served_slot (q ∷ qs) = Some q

-- how many bytes session i is owed
abbrev pub owed_to : List ℕ → ℕ → Round → ℕ
owed_to ws i r = total (λ q. only (owner ws q == i) 1) r.owed
