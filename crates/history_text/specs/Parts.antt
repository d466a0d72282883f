-- The parts that an iterator over a text has not given yet. Assumes nothing.
use Rattle.std.specs.Prelude.{ℕ, List, [], Some, None, Option}
use Rattle.std.specs.Borrow.{Bor}
use Rattle.history_text.specs.declared.cuts.Parts.{Parts}
use Rattle.history_text.specs.Cuts.{cut}

abbrev pub left_in : ℕ → Option (Bor (List ℕ)) → List (List ℕ)
left_in s None = []
left_in s (Some text) = cut s text.now

abbrev pub left : Parts → List (List ℕ)
left p = left_in p.at p.rest
