-- The heap of a line: its first pair is the least, and what a put and a take leave. Assumes nothing.
use Rattle.std.proofs.Common.{◌≡◌, ℕ, suc, ◌<◌, ◌≤◌, ◌≢◌, true, false, cond, eqb, ltb, List, [], ◌∷◌, ◌++◌, length, get_or, slice_get, Some, None, sym, refl, ap, ◌∙◌, subst, ⊎_elim, arith}
use Rattle.std.specs.List.Sorted.{IsPermutation}
use Rattle.std.proofs.lemmas.List.Sorted.{IsPermutation-sym, IsPermutation-trans, IsPermutation-to_front, sum_by-IsPermutation}
use Rattle.std.proofs.lemmas.Bool.{ltb-false, ne_eqb, eq-eqb, and_parts, or_from, or_parts, eqb-false, cond_both, cond-true, cases_eq}
use Rattle.heap_order.specs.Heaps.{FirstLeast}
use Rattle.tick_machine.specs.Lists.{insert}
use Rattle.waiting_line.specs.declared.pair.Pair.{Pair}
use Rattle.waiting_line.specs.Lines.{stamp_of, holds, first, rest}
use Rattle.waiting_line.specs.Kept.{blank, all_above, by_stamp, sorted, copies}
use Rattle.waiting_line.specs.Orders.{above_put}
use Rattle.waiting_line.specs.Sums.{weight, same_by_sums, total_shuffled, total_sorted, holds_sorted, count_yes, count_no, not_there, Apart, apart_tail, apart_head, sorted_in_order}

-- a rearrangement has its stamps apart too, and is the same in order
shuffled_apart : (ps qs : List Pair) → IsPermutation ps qs → Apart ps → Apart qs
unfolding copies
shuffled_apart ps qs h a s = omega (arith, sum_by-IsPermutation (λ p. cond (eqb s p.stamp) 1 0) ps qs h, a s)

same_sorted : (ps qs : List Pair) → IsPermutation ps qs → Apart ps → sorted ps ≡ sorted qs
same_sorted ps qs h a =
    same_by_sums (sorted ps) (sorted qs) (sorted_in_order ps a) (sorted_in_order qs (shuffled_apart ps qs h a)) (λ s. omega (arith, total_sorted (weight s) ps, total_sorted (weight s) qs, total_shuffled (weight s) ps qs h))

-- a put
in_front : (p : Pair) (ps qs : List Pair) → IsPermutation (ps ++ p ∷ []) qs → IsPermutation (p ∷ ps) qs
in_front p ps qs h = IsPermutation-trans (p ∷ ps) (ps ++ p ∷ []) qs (IsPermutation-sym (ps ++ p ∷ []) (p ∷ ps) (IsPermutation-to_front ps p)) h

one_more : (p : Pair) (ps : List Pair) → Apart ps → holds p.stamp ps ≡ false → Apart (p ∷ ps)
unfolding copies
one_more p ps a n s = ⊎_elim
    (λ e. omega (arith, count_yes (λ q. eqb s q.stamp) p ps (eq-eqb s p.stamp e), subst (λ (m : ℕ). copies m ps ≡ 0) (sym e) (not_there p.stamp ps n)))
    (λ d. omega (arith, count_no (λ q. eqb s q.stamp) p ps (ne_eqb s p.stamp d), a s))
    (cases_eq s p.stamp)

pub put_apart : (p : Pair) (ps qs : List Pair) → IsPermutation (ps ++ p ∷ []) qs → Apart ps → holds p.stamp ps ≡ false → Apart qs
put_apart p ps qs h a n = shuffled_apart (p ∷ ps) qs (in_front p ps qs h) (one_more p ps a n)

pub put_sorted : (p : Pair) (ps qs : List Pair) → IsPermutation (ps ++ p ∷ []) qs → Apart ps → holds p.stamp ps ≡ false → sorted qs ≡ insert stamp_of p (sorted ps)
put_sorted p ps qs h a n = sym (same_sorted (p ∷ ps) qs (in_front p ps qs h) (one_more p ps a n))

-- a stamp that no pair has
pub absent : (s : ℕ) (ps : List Pair) → ((k : ℕ) → k < length ps → (get_or ps k blank).stamp ≡ s → ⊥) → holds s ps ≡ false
absent s [] h = refl
absent s (p ∷ ps) h = or_from _ _ (ne_eqb _ _ (λ (e : s ≡ p.stamp). h 0 (omega arith) (sym e))) (absent s ps (λ k l. h (suc k) (omega arith)))

-- the first of the heap leads the line
above_sorted : (s : ℕ) (ps : List Pair) → ((k : ℕ) → k < length ps → s ≤ (get_or ps k blank).stamp) → holds s ps ≡ false → all_above s (sorted ps) ≡ true
above_sorted s [] h n = refl
above_sorted s (p ∷ ps) h n =
    let a = or_parts (eqb s p.stamp) (holds s ps) n in
    let d : s ≢ p.stamp = eqb-false s p.stamp a.0 in
    let l : s ≤ p.stamp = h 0 (omega arith) in
    above_put s p (sorted ps) (omega arith) (above_sorted s ps (λ k b. h (suc k) (omega arith)) a.1)

first_insert : (p : Pair) (ps : List Pair) → all_above p.stamp ps ≡ true → insert stamp_of p ps ≡ p ∷ ps
first_insert p [] h = refl
first_insert p (q ∷ ps) h = cond-true (ltb p.stamp q.stamp) _ _ (and_parts (ltb p.stamp q.stamp) (all_above p.stamp ps) h).0

pub least_first : (ps : List Pair) → FirstLeast by_stamp ps → Apart ps → slice_get ps 0 ≡ first (sorted ps)
least_first [] h a = refl
least_first (p ∷ ps) h a =
    let above = above_sorted p.stamp ps (λ k l. ltb-false _ _ (h (suc k) blank (omega arith))) (apart_head p ps a) in
    ap first (sym (first_insert p (sorted ps) above))

-- a take
pub taken_apart : (p : Pair) (ps qs : List Pair) → IsPermutation ps (p ∷ qs) → Apart ps → Apart qs
taken_apart p ps qs h a = apart_tail p qs (shuffled_apart ps (p ∷ qs) h a)

-- a pair that came to the front, and is taken again
front_rest : (p : Pair) (ps : List Pair) → holds p.stamp ps ≡ false → first (insert stamp_of p ps) ≡ Some p → rest (insert stamp_of p ps) ≡ ps
front_rest p [] n f = refl
front_rest p (q ∷ ps) n f = cond_both (ltb p.stamp q.stamp) (p ∷ q ∷ ps) (q ∷ insert stamp_of p ps) (λ (ys : List Pair). first ys ≡ Some p → rest ys ≡ q ∷ ps)
    (λ e f. refl)
    (λ e f. let same : p ≡ q = cc in absurd (eqb-false p.stamp q.stamp (or_parts (eqb p.stamp q.stamp) (holds p.stamp ps) n).0 (ap stamp_of same)))
    f

pub taken_sorted : (p : Pair) (ps qs : List Pair) → IsPermutation ps (p ∷ qs) → first (sorted ps) ≡ Some p → Apart ps → sorted qs ≡ rest (sorted ps)
taken_sorted p ps qs h f a =
    let same : sorted ps ≡ sorted (p ∷ qs) = same_sorted ps (p ∷ qs) h a in
    let n = apart_head p qs (shuffled_apart ps (p ∷ qs) h a) in
    sym (front_rest p (sorted qs) (holds_sorted p.stamp qs ∙ n) (ap first (sym same) ∙ f)) ∙ ap rest (sym same)

-- a take of none
pub none_taken : (ps qs : List Pair) → None ≡ slice_get ps 0 → qs ≡ ps → sorted qs ≡ rest (sorted ps)
none_taken [] qs e h = ap sorted h
none_taken (p ∷ ps) qs e h = absurd (let z : ◌≡◌ {A = ℕ} 0 1 = cc in omega arith)
