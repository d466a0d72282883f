-- What a waiting line's calls answer, and what they leave, for the list of its pairs in rising order of stamps. Assumes nothing.
use Rattle.std.specs.Prelude.{ℕ, Bool, false, cond, ◌&&◌, ◌||◌, List, [], ◌∷◌, length, is_ok, Some, None, Ok, Err, Option, Result, ◌==◌, nat_le, nat_lt}
use Rattle.tick_machine.specs.Lists.{insert}
use Rattle.tick_machine.specs.declared.refusal.LineRefusal.{LineRefusal}
use Rattle.tick_machine.specs.declared.refusal.LineRefusal.TheVariants.{Full, Twice}
use Rattle.waiting_line.specs.declared.pair.Pair.{Pair}
use Rattle.waiting_line.specs.declared.refusal.MakeRefusal.{MakeRefusal}
use Rattle.waiting_line.specs.declared.refusal.MakeRefusal.TheVariants.{Capacity, NoMemory}

-- the key of the order
abbrev pub stamp_of : Pair → ℕ
stamp_of p = p.stamp

-- a capacity that a line may have
abbrev pub fitting : ℕ → Bool
fitting n = nat_le 1 n && nat_le n 1024

-- the number by which a refusal to make a line is told
abbrev pub make_number : MakeRefusal → Option ℕ
make_number Capacity = Some 13
make_number NoMemory = None

-- a pair of the list has the stamp
abbrev pub holds : ℕ → List Pair → Bool
holds s [] = false
holds s (p ∷ ps) = s == p.stamp || holds s ps

-- there is room while there are fewer pairs than the capacity
abbrev pub room_answer : List Pair → ℕ → Result (Unit {0}) LineRefusal
room_answer ps most = cond (nat_lt (length ps) most) (Ok tt) (Err Full)

-- the answer to a put: no room comes before a stamp that is there already
abbrev pub put_answer : List Pair → ℕ → Pair → Result (Unit {0}) LineRefusal
put_answer ps most p = cond (nat_lt (length ps) most) (cond (holds p.stamp ps) (Err Twice) (Ok tt)) (Err Full)

-- the pairs after a put: the new one at its place if it was accepted
abbrev pub put_after : List Pair → ℕ → Pair → List Pair
put_after ps most p = cond (is_ok (put_answer ps most p)) (insert stamp_of p ps) ps

-- the pair with the least stamp
abbrev pub first : List Pair → Option Pair
first [] = None
first (p ∷ ps) = Some p

-- the pairs without the one with the least stamp
abbrev pub rest : List Pair → List Pair
rest [] = []
rest (p ∷ ps) = ps
