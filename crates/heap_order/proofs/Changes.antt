-- A heap after one change: where it may fail, and what its elements are. Assumes nothing.
use Rattle.std.proofs.Common.{◌≡◌, ℕ, ◌<◌, Bool, false, List, [], ◌∷◌, ◌++◌, length, get_or, take, sym, ◌∙◌, subst, arith, length-append}
use lib.ListN.{get_or-append}
use lib.Seq.{take-append_seam}
use Rattle.std.specs.List.Sorted.{IsPermutation}
use Rattle.std.specs.List.{swap_remove}
use Rattle.std.proofs.lemmas.List.Sorted.{IsPermutation-trans, IsPermutation-cons, IsPermutation-swap_remove}
use Rattle.heap_order.specs.Heaps.{parent, Heaped, Loose}

-- what a `Vec` holds once a slice of all of it was written
pub refilled : {X : Type 0} (ws zs : List X) (n : ℕ) → length ws ≡ n → take n (ws ++ zs) ≡ ws
refilled {X} ws zs n e = subst (λ (m : ℕ). take m (ws ++ zs) ≡ ws) e (take-append_seam ws zs)

-- the first taken, and the others rearranged
pub taken : {X : Type 0} (xs ys zs : List X) (x : X) → 0 < length xs → x ≡ get_or xs 0 x → ys ≡ swap_remove xs 0 x → IsPermutation ys zs → IsPermutation xs (x ∷ zs)
taken {X} xs ys zs x l e s h =
    let p : IsPermutation xs (x ∷ ys) = subst (λ (w : List X). IsPermutation xs (x ∷ w)) (sym s) (IsPermutation-swap_remove xs 0 x l e) in
    IsPermutation-trans xs (x ∷ ys) (x ∷ zs) p (IsPermutation-cons x ys zs h)

module _ {X : Type 0} (before : X → X → Bool) where
  by : (a b x y : X) → a ≡ x → b ≡ y → before x y ≡ false → before a b ≡ false
  by a b x y p q h = (λ k. before (p k) (q k)) ∙ h

  -- one more element at the end
  pub loose_push : (xs : List X) (x : X) → Heaped before xs → Loose before (xs ++ x ∷ []) (length xs)
  loose_push xs x h =
      let n = length-append xs (x ∷ []) in
      let same : (k : ℕ) (d : X) → k < length xs → get_or (xs ++ x ∷ []) k d ≡ get_or xs k d = λ k d l. get_or-append xs (x ∷ []) d k l in (
        λ k d lo f u. let l : k < length xs = omega (arith, n) in by _ _ _ _ (same k d l) (same (parent k) d (omega arith)) (h k d lo l),
        λ k d up f e. absurd (omega (arith, n)),
      )
