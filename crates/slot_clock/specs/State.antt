-- What a slot clock means: a function of the round server, and back. Assumes nothing.
use Rattle.std.specs.Prelude.{ℕ, List, map, length}
use Rattle.tick_machine.specs.Round.{Round, owed_to}
use Rattle.tick_machine.specs.Owed.{from, shown_round}

-- the weights; the ticks run; V; for each session one more than the highest slot that it ever got, 0 if it got none; for each session the number of
-- bytes that it is owed
pub record SlotState : Type 0 where
  pub weights : List ℕ
  pub ticks : ℕ
  pub cursor : ℕ
  pub next : List ℕ
  pub owed : List ℕ

-- how many bytes each session is owed
abbrev pub owed_each : List ℕ → Round → List ℕ
owed_each ws r = map (λ i. owed_to ws i r) (from 0 (length ws))

-- what a slot clock with these weights means that ran so many ticks, if this is the round server
abbrev pub state_of : List ℕ → ℕ → Round → SlotState
state_of ws ticks r = record { weights = ws; ticks = ticks; cursor = r.cursor; next = r.next; owed = owed_each ws r }

-- the round server that a slot clock stands for: every slot from V on that is below its owner's next is owed
abbrev pub round_of : SlotState → Round
round_of s = shown_round s.weights s.cursor s.next
