-- Two clocks, or two waiting lines, that stand for the same. Assumes nothing.
use Rattle.std.specs.Prelude.{◌≡◌, ℕ, List}
use Rattle.waiting_line.specs.declared.pair.Pair.{Pair}
use Rattle.slot_clock.specs.State.{SlotState}

-- the same state
abbrev pub SameClocks : {C D : Type 0} → (C → SlotState) → (D → SlotState) → C → D → Type 0
SameClocks s t a b = s a ≡ t b

-- the same pairs and the same capacity
abbrev pub SameLines : {V W : Type 0} → (V → List Pair) → (V → ℕ) → (W → List Pair) → (W → ℕ) → V → W → Type 0
SameLines p m q n v w = (p v ≡ q w) × (m v ≡ n w)
