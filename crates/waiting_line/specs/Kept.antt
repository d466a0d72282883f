-- How the two lines keep their pairs. Assumes nothing.
use Rattle.std.specs.Prelude.{ℕ, ◌%◌, Bool, true, ◌&&◌, List, [], ◌∷◌, count_by, ◌==◌, nat_lt}
use Rattle.tick_machine.specs.Lists.{insert}
use Rattle.waiting_line.specs.declared.pair.Pair.{Pair}
use Rattle.waiting_line.specs.Lines.{stamp_of}

-- what stands past a list's end
abbrev pub blank : Pair
blank = record { stamp = 0; packet = 0 }

-- every pair of the list has a stamp above s
abbrev pub all_above : ℕ → List Pair → Bool
all_above s [] = true
all_above s (p ∷ ps) = nat_lt s p.stamp && all_above s ps

-- the stamps rise, as a test
abbrev pub in_order : List Pair → Bool
in_order [] = true
in_order (p ∷ ps) = all_above p.stamp ps && in_order ps

-- the order in a heap of pairs
abbrev pub by_stamp : Pair → Pair → Bool
by_stamp p q = nat_lt p.stamp q.stamp

-- the pairs of a heap in rising order of stamps
abbrev pub sorted : List Pair → List Pair
sorted [] = []
sorted (p ∷ ps) = insert stamp_of p (sorted ps)

-- how many pairs have the stamp
unfoldable pub copies : ℕ → List Pair → ℕ
copies s ps = count_by (λ p. s == p.stamp) ps

-- the remainder by which a stamp is counted
abbrev pub remainder : ℕ → ℕ
remainder s = s % 8191

-- how many pairs have a stamp with that remainder
unfoldable pub sharing : ℕ → List Pair → ℕ
sharing r ps = count_by (λ p. r == remainder p.stamp) ps
