-- The owed slots, told by the cursor and the sessions' next slots alone. Assumes nothing.
use Rattle.std.specs.Prelude.{ℕ, zero, suc, ◌-◌, max, Bool, cond, List, [], ◌∷◌, nat_lt, slice_index}
use Rattle.tick_machine.specs.Slots.{owner}
use Rattle.tick_machine.specs.Round.{Round}

-- the numbers from v on, k of them
abbrev pub from : ℕ → ℕ → List ℕ
from v zero = []
from v (suc k) = v ∷ from (suc v) k

-- those that pass the test
abbrev pub kept : (ℕ → Bool) → List ℕ → List ℕ
kept test [] = []
kept test (q ∷ qs) = cond (test q) (q ∷ kept test qs) (kept test qs)

abbrev pub greatest : List ℕ → ℕ
greatest [] = 0
greatest (n ∷ ns) = max n (greatest ns)

-- the slots from v on that are below their owner's next, in rising order
abbrev pub owed_slots : List ℕ → ℕ → List ℕ → List ℕ
owed_slots ws v next = kept (λ q. nat_lt q (slice_index next (owner ws q))) (from v (greatest next - v))

-- the round server with the cursor v and these nexts: each slot from v on that is below its owner's next is owed
abbrev pub shown_round : List ℕ → ℕ → List ℕ → Round
shown_round ws v next = record { cursor = v; owed = owed_slots ws v next; next = next }
