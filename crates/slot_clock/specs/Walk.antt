-- Where ticks bring V, told by V and the nexts alone. Assumes nothing.
use Rattle.std.specs.Prelude.{◌≡◌, ℕ, zero, suc, ◌-◌, ◌<◌, Bool, cond, List, length, nat_eq, nat_lt, slice_index}
use Rattle.tick_machine.specs.Lists.{count}
use Rattle.tick_machine.specs.Slots.{owner, lowest}
use Rattle.tick_machine.specs.Owed.{greatest}

-- how many slots of session i are below x
abbrev pub below : List ℕ → ℕ → ℕ → ℕ
below ws i x = count (λ q. nat_eq (owner ws q) i) x

-- a slot from V on is owed if it is below its owner's next
abbrev pub due : List ℕ → List ℕ → ℕ → Bool
due ws next q = nat_lt q (slice_index next (owner ws q))

-- V after a tick: one past the lowest owed slot, if there is one
abbrev pub tick_cursor : List ℕ → List ℕ → ℕ → ℕ
tick_cursor ws next v = let q = lowest (due ws next) (greatest next - v) v in cond (due ws next q) (suc q) v

-- V after k ticks
abbrev pub ticks_cursor : List ℕ → List ℕ → ℕ → ℕ → ℕ
ticks_cursor ws next zero v = v
ticks_cursor ws next (suc k) v = ticks_cursor ws next k (tick_cursor ws next v)

-- each session's next is one more than a slot of its own, or 0
abbrev pub Tops : List ℕ → List ℕ → Type 0
Tops ws next = (i : ℕ) → i < length next → 0 < slice_index next i → owner ws (slice_index next i - 1) ≡ i
