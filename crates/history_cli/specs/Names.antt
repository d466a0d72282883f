-- The names of the parts. Assumes nothing.
use Rattle.std.specs.Prelude.{◌≡◌, ℕ, List, Ok, Err, codes, Result, ◌≢◌}
use Rattle.history_cli.specs.declared.parts.Parts.{Parts}
use Rattle.history_cli.specs.declared.parts.UnknownParts.{UnknownParts}
use Rattle.history_cli.specs.declared.parts.Parts.TheVariants.{HeapStep, HeapJump, SortedStep, SortedJump}

abbrev pub name_of : Parts → List ℕ
name_of HeapStep = codes "heap-step"
name_of HeapJump = codes "heap-jump"
name_of SortedStep = codes "sorted-step"
name_of SortedJump = codes "sorted-jump"

-- the parts of that name, or that there are none
abbrev pub Names : List ℕ → Result Parts UnknownParts → Type 0
Names xs (Ok p) = xs ≡ name_of p
Names xs (Err e) = (p : Parts) → xs ≢ name_of p
