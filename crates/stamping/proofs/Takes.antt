-- A line from which a pair was taken is one shorter. Assumes nothing.
use Rattle.std.proofs.Common.{◌≡◌, ◌-◌, List, [], ◌∷◌, length, arith}
use Rattle.waiting_line.specs.declared.pair.Pair.{Pair}
use Rattle.waiting_line.specs.Lines.{rest}

pub length_of_rest : (ps : List Pair) → length (rest ps) ≡ length ps - 1
length_of_rest [] = omega arith
length_of_rest (p ∷ ps) = omega arith
