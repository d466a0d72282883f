-- The first part of a text, up to the first byte at which it is cut. Assumes nothing.
use Rattle.std.proofs.Common.{◌≡◌, ℕ, ◌+◌, ◌-◌, ◌<◌, ◌≤◌, eqb, List, [], ◌∷◌, length, take, drop, true, false, refl, Some, None, ⊎_elim, arith}
use Rattle.std.specs.List.{position, position_or_len, onto_first}
use Rattle.std.proofs.lemmas.List.{take_rest}
use Rattle.std.proofs.lemmas.List.Splits.{slice_split_first, slice_split_none, length-slice_split}
use Rattle.std.proofs.lemmas.List.Sums.{fails_before_first, count_by-le-length}
use Rattle.std.proofs.lemmas.Bool.{cases_Bool, cases_lt, lt-ltb, le-ltb, cond-true, cond-false}
use Rattle.history_text.specs.Cuts.{cut, spread}

module _ (s : ℕ) (xs : List ℕ) where
  found : position_or_len (λ x. eqb x s) xs < length xs → position (λ x. eqb x s) xs ≡ Some (position_or_len (λ x. eqb x s) xs)
  found h = cond-true _ _ _ (lt-ltb _ _ h)

  missing : length xs ≤ position_or_len (λ x. eqb x s) xs → position (λ x. eqb x s) xs ≡ None
  missing h = cond-false _ _ _ (le-ltb _ _ h)

  -- the byte s stands first at i; the rest is written as `&text[i + 1..]` is read
  pub cut_at : (i : ℕ) → position (λ x. eqb x s) xs ≡ Some i → cut s xs ≡ take i xs ∷ cut s (take (length xs - (i + 1)) (drop (i + 1) xs))
  cut_at i e =
      ⊎_elim
      (λ (h : position_or_len (λ x. eqb x s) xs < length xs).
      let f = found h in
      let same : position_or_len (λ x. eqb x s) xs ≡ i = cc in
      rw (take_rest xs (i + 1), ← same) (slice_split_first (λ x. eqb x s) xs 0 h))
      (λ (h : length xs ≤ position_or_len (λ x. eqb x s) xs). let n = missing h in cc)
      (cases_lt (position_or_len (λ x. eqb x s) xs) (length xs))

  -- it stands nowhere
  pub cut_nowhere : position (λ x. eqb x s) xs ≡ None → cut s xs ≡ xs ∷ []
  cut_nowhere e =
      ⊎_elim
      (λ (h : position_or_len (λ x. eqb x s) xs < length xs). let f = found h in cc)
      (λ (h : length xs ≤ position_or_len (λ x. eqb x s) xs). slice_split_none (λ x. eqb x s) xs (λ k d l. fails_before_first (λ x. eqb x s) xs k d (omega arith)))
      (cases_lt (position_or_len (λ x. eqb x s) xs) (length xs))

spread_onto : (x : ℕ) (parts : List (List ℕ)) → 0 < length parts → spread (onto_first x parts) ≡ spread parts + 1
spread_onto x [] h = absurd (omega arith)
spread_onto x (part ∷ parts) h = omega arith

-- a text's bytes, and one more
pub spread_cut : (s : ℕ) (xs : List ℕ) → spread (cut s xs) ≡ length xs + 1
spread_cut s [] = refl
spread_cut s (x ∷ xs) =
    ⊎_elim
    (λ (t : eqb x s ≡ true). rw t (omega (arith, spread_cut s xs)))
    (λ (f : eqb x s ≡ false). rw f (omega (arith, spread_onto x (cut s xs) (omega (arith, length-slice_split (λ y. eqb y s) xs)), spread_cut s xs)))
    (cases_Bool (eqb x s))

pub length_cut : (s : ℕ) (xs : List ℕ) → length (cut s xs) ≤ length xs + 1
length_cut s xs = omega (arith, length-slice_split (λ x. eqb x s) xs, count_by-le-length (λ x. eqb x s) xs)

-- each part takes a byte at least
pub length_spread : (parts : List (List ℕ)) → length parts ≤ spread parts
length_spread [] = omega arith
length_spread (part ∷ parts) = omega (arith, length_spread parts)
