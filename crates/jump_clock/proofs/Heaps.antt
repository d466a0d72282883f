-- The heap of busy sessions after one change: where it may fail, and what its elements are. Assumes nothing.
use Rattle.std.proofs.Common.{◌≡◌, ℕ, zero, suc, ◌+◌, ◌<◌, ◌≤◌, List, [], ◌∷◌, ◌++◌, length, get_or, set, sum_by, refl, ap, ◌∙◌, subst, ⊎_elim, arith, length-set, get_or-set_other, get_or-set_same}
use Rattle.std.proofs.lemmas.Bool.{ltb-false, le-ltb, cases_eq}
use Rattle.std.specs.List.Sorted.{IsPermutation}
use Rattle.std.proofs.lemmas.List.{get_or_default}
use Rattle.std.proofs.lemmas.List.Sums.{sum_by-cons}
use Rattle.std.proofs.lemmas.List.Sorted.{sum_by-IsPermutation}
use Rattle.tick_machine.specs.Lists.{total}
use Rattle.tick_machine.proofs.Places.{total_push}
use Rattle.heap_order.specs.Heaps.{parent, Heaped, Heavy}
use Rattle.std.specs.List.{swap_remove}
use Rattle.heap_order.proofs.Changes.{taken}
use Rattle.jump_clock.specs.declared.dry.Dry.{Dry}
use Rattle.jump_clock.specs.Ends.{blank, by_end, Ordered}
use Rattle.jump_clock.specs.Dries.{Traded, Gained, Lost}

pub ordered_of : (xs : List Dry) → Heaped by_end xs → Ordered xs
ordered_of xs h k z l = ltb-false (get_or xs k blank).end (get_or xs (parent k) blank).end (h k blank z l)

pub heaped_of : (xs : List Dry) → Ordered xs → Heaped by_end xs
heaped_of xs h k d z l =
    le-ltb (get_or xs k d).end (get_or xs (parent k) d).end
    (omega (arith, h k z l, ap (λ (t : Dry). t.end) (get_or_default xs k d blank l), ap (λ (t : Dry). t.end) (get_or_default xs (parent k) d blank (omega arith))))

-- a later end in one place
pub heavy_later : (xs : List Dry) (j : ℕ) (t : Dry) → Ordered xs → j < length xs → (get_or xs j blank).end ≤ t.end → Heavy by_end (set xs j t) j
heavy_later xs j t h l le =
    let n : length (set xs j t) ≡ length xs = length-set xs j t in
    let def : (k : ℕ) (d : Dry) → k < length xs → (get_or xs k d).end ≡ (get_or xs k blank).end = λ k d f. ap (λ (x : Dry). x.end) (get_or_default xs k d blank f) in
    let off : (k : ℕ) (d : Dry) → (k ≡ j → ⊥) → (get_or (set xs j t) k d).end ≡ (get_or xs k d).end = λ k d u. ap (λ (x : Dry). x.end) (get_or-set_other xs j k t d u) in (
      λ k d z f u. ⊎_elim
          (λ (e : k ≡ j).
          let at : (get_or (set xs j t) k d).end ≡ t.end = ap (λ (m : ℕ). (get_or (set xs j t) m d).end) e ∙ ap (λ (x : Dry). x.end) (get_or-set_same xs j t d l) in
          let g : k < length xs = omega (arith, n) in
          le-ltb _ _ (omega (arith, at, off (parent k) d u, def (parent k) d (omega arith), h k z g, ap (λ (m : ℕ). (get_or xs m blank).end) e, le)))
          (λ (e : k ≡ j → ⊥).
          let g : k < length xs = omega (arith, n) in
          le-ltb _ _ (omega (arith, off k d e, off (parent k) d u, def k d g, def (parent k) d (omega arith), h k z g)))
          (cases_eq k j),
      λ k d z f e.
          let g : k < length xs = omega (arith, n) in
          let up : (get_or xs j blank).end ≤ (get_or xs k blank).end = subst (λ (m : ℕ). (get_or xs m blank).end ≤ (get_or xs k blank).end) e (h k (omega arith) g) in
          le-ltb _ _ (omega (arith, off k d (omega arith), off (parent j) d (omega arith), def k d g, def (parent j) d (omega arith), up, h j z l)),
    )

-- the first is no later than any
pub top : (xs : List Dry) → Ordered xs → (fuel k : ℕ) → k ≤ fuel → k < length xs → (get_or xs 0 blank).end ≤ (get_or xs k blank).end
top xs h zero k a b = subst (λ (m : ℕ). (get_or xs 0 blank).end ≤ (get_or xs m blank).end) (let z : 0 ≡ k = omega arith in z) (omega arith)
top xs h (suc fuel) zero a b = omega arith
top xs h (suc fuel) (suc k) a b =
    let up = top xs h fuel (parent (suc k)) (omega arith) (omega arith) in
    omega (arith, up, h (suc k) (omega arith) b)

-- sums over the elements
total_sum : (f : Dry → ℕ) (xs : List Dry) → total f xs ≡ sum_by f xs
total_sum f [] = refl
total_sum f (x ∷ xs) = omega (arith, sum_by-cons f x xs, total_sum f xs)

total_shuffled : (f : Dry → ℕ) (xs ys : List Dry) → IsPermutation xs ys → total f xs ≡ total f ys
total_shuffled f xs ys h = omega (arith, total_sum f xs, total_sum f ys, sum_by-IsPermutation f xs ys h)

total_set : (f : Dry → ℕ) (xs : List Dry) (j : ℕ) (t : Dry) → j < length xs → total f (set xs j t) + f (get_or xs j blank) ≡ total f xs + f t
total_set f [] j t l = absurd (omega arith)
total_set f (x ∷ xs) zero t l = omega arith
total_set f (x ∷ xs) (suc j) t l = omega (arith, total_set f xs j t (omega arith))

pub lost : (xs ys zs : List Dry) (x : Dry) → 0 < length xs → x ≡ get_or xs 0 x → ys ≡ swap_remove xs 0 x → IsPermutation ys zs → Lost xs (get_or xs 0 blank) zs
lost xs ys zs x l e s h f = omega (arith, total_shuffled f xs (x ∷ zs) (taken xs ys zs x l e s h), ap f (e ∙ get_or_default xs 0 x blank l))

pub gained : (xs ys zs : List Dry) (t : Dry) → ys ≡ xs ++ t ∷ [] → IsPermutation ys zs → Gained xs t zs
gained xs ys zs t e h f = omega (arith, total_shuffled f ys zs h, ap (total f) e, total_push f xs t)

pub traded : (xs ys zs : List Dry) (j : ℕ) (t : Dry) → j < length xs → ys ≡ set xs j t → IsPermutation ys zs → Traded xs (get_or xs j blank) t zs
traded xs ys zs j t l e h f = omega (arith, total_shuffled f ys zs h, ap (total f) e, total_set f xs j t l)
