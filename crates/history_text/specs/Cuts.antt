-- A text cut at each byte s: the parts between, one more than there are such bytes. Lines are cut at byte 10, fields at byte 32.
-- Assumes nothing.
use Rattle.std.specs.Prelude.{ℕ, ◌+◌, List, [], ◌∷◌, length, ◌==◌}
use Rattle.std.specs.List.{slice_split}

abbrev pub cut : ℕ → List ℕ → List (List ℕ)
cut s xs = slice_split (λ x. x == s) xs

-- how many bytes the parts take, each with the byte after it
abbrev pub spread : List (List ℕ) → ℕ
spread [] = 0
spread (part ∷ parts) = length part + 1 + spread parts
