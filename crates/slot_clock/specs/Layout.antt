-- Ranks of slots, where each session owns a block of positions. A test b says of each session whether its slots count. Assumes nothing.
use Rattle.std.specs.Prelude.{◌≡◌, ℕ, suc, ◌+◌, ◌-◌, min, Bool, cond, List, [], ◌∷◌, nat_lt}
use Rattle.tick_machine.specs.Lists.{only}
use Rattle.tick_machine.specs.Slots.{owner}

-- whatever a call may answer is what the test b says; `gives j r` is that the call at session j may answer r
abbrev pub Tells : (ℕ → Bool → Type 0) → (ℕ → Bool) → Type 0
Tells gives b = (j : ℕ) (r : Bool) → gives j r → r ≡ b j

-- whether slot q counts
abbrev pub counted : List ℕ → (ℕ → Bool) → ℕ → Bool
counted ws b q = b (owner ws q)

-- how many positions of the round count, of the sessions from i on
abbrev pub whole : (ℕ → Bool) → ℕ → List ℕ → ℕ
whole b i [] = 0
whole b i (w ∷ ws) = only (b i) w + whole b (suc i) ws

-- how many positions below p count
abbrev pub part : (ℕ → Bool) → ℕ → List ℕ → ℕ → ℕ
part b i [] p = 0
part b i (w ∷ ws) p = only (b i) (min p w) + part b (suc i) ws (p - w)

-- the position that counts and has u before it that count
abbrev pub place : (ℕ → Bool) → ℕ → List ℕ → ℕ → ℕ
place b i [] u = 0
place b i (w ∷ ws) u = cond (b i) (cond (nat_lt u w) u (w + place b (suc i) ws (u - w))) (w + place b (suc i) ws u)
