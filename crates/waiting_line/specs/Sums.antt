-- Pairs in order of their stamps, their sums and their counts. Sorting only moves the pairs, and a list in order is known by its
-- sums. Assumes nothing.
use Rattle.std.specs.Prelude.{◌≡◌, ℕ, ◌+◌, ◌<◌, ◌≤◌, Bool, true, false, cond, ◌||◌, List, [], ◌∷◌, ◌++◌, length, count_by, sum_by, ◌==◌, ◌≢◌, nat_lt, refl}
use Rattle.std.proofs.Common.{sym, ap, ◌∙◌, ⊎_elim, arith}
use Rattle.std.specs.List.{list_any}
use Rattle.std.specs.List.Sorted.{IsPermutation}
use Rattle.std.proofs.lemmas.List.Sums.{sum_by-cons}
use Rattle.std.proofs.lemmas.List.Sorted.{IsPermutation-refl, IsPermutation-cons, IsPermutation-middle, IsPermutation-trans, length_permutation, list_any-IsPermutation, sum_by-IsPermutation}
use Rattle.std.proofs.lemmas.Bool.{ltb-true, ne_eqb, eq-eqb, and_parts, or_from, or_parts, cond_both, cond-true, cond-false, cases_order}
use Rattle.tick_machine.specs.Lists.{total, only, insert}
use Rattle.waiting_line.specs.declared.pair.Pair.{Pair}
use Rattle.waiting_line.specs.Lines.{stamp_of, holds}
use Rattle.waiting_line.specs.Kept.{all_above, in_order, sorted, copies}
use Rattle.waiting_line.specs.Orders.{put_in_order}

-- the sum over a list is the library's, so a rearrangement keeps it
total_sum : {X : Type 0} (f : X → ℕ) (xs : List X) → total f xs ≡ sum_by f xs
total_sum f [] = refl
total_sum f (x ∷ xs) = omega (arith, total_sum f xs, sum_by-cons f x xs)

pub total_shuffled : {X : Type 0} (f : X → ℕ) (xs ys : List X) → IsPermutation xs ys → total f ys ≡ total f xs
total_shuffled f xs ys h = omega (arith, total_sum f xs, total_sum f ys, sum_by-IsPermutation f xs ys h)

pub total_push : {X : Type 0} (f : X → ℕ) (xs : List X) (x : X) → total f (xs ++ x ∷ []) ≡ total f xs + f x
total_push f [] x = omega arith
total_push f (y ∷ xs) x = omega (arith, total_push f xs x)

-- one more than the packet's number, where the stamp is s
abbrev pub weight : ℕ → Pair → ℕ
weight s p = only (s == p.stamp) (p.packet + 1)

pub weight_at : (s : ℕ) (p : Pair) → s ≡ p.stamp → weight s p ≡ p.packet + 1
weight_at s p e = cond-true (s == p.stamp) _ _ (eq-eqb _ _ e)

pub weight_off : (s : ℕ) (p : Pair) → (s ≢ p.stamp) → weight s p ≡ 0
weight_off s p n = cond-false (s == p.stamp) _ _ (ne_eqb _ _ n)

-- 1 where the stamp is s
abbrev pub hit : ℕ → Pair → ℕ
hit s p = only (s == p.stamp) 1

pub hit_at : (s : ℕ) (p : Pair) → s ≡ p.stamp → hit s p ≡ 1
hit_at s p e = cond-true (s == p.stamp) _ _ (eq-eqb _ _ e)

pub hit_off : (s : ℕ) (p : Pair) → (s ≢ p.stamp) → hit s p ≡ 0
hit_off s p n = cond-false (s == p.stamp) _ _ (ne_eqb _ _ n)

-- a pair at its place among the others
pub insert_shuffled : (p : Pair) (ps : List Pair) → IsPermutation (p ∷ ps) (insert stamp_of p ps)
insert_shuffled p [] = IsPermutation-refl (p ∷ [])
insert_shuffled p (q ∷ ps) = cond_both (nat_lt p.stamp q.stamp) _ _ (λ (ys : List Pair). IsPermutation (p ∷ q ∷ ps) ys)
    (λ e. IsPermutation-refl (p ∷ q ∷ ps))
    (λ e. IsPermutation-trans (p ∷ q ∷ ps) (q ∷ p ∷ ps) (q ∷ insert stamp_of p ps) (IsPermutation-middle (p ∷ []) q ps) (IsPermutation-cons q (p ∷ ps) (insert stamp_of p ps) (insert_shuffled p ps)))

pub sorted_shuffled : (ps : List Pair) → IsPermutation ps (sorted ps)
sorted_shuffled [] = IsPermutation-refl []
sorted_shuffled (p ∷ ps) = IsPermutation-trans (p ∷ ps) (p ∷ sorted ps) (sorted (p ∷ ps)) (IsPermutation-cons p ps (sorted ps) (sorted_shuffled ps)) (insert_shuffled p (sorted ps))

pub length_sorted : (ps : List Pair) → length (sorted ps) ≡ length ps
length_sorted ps = length_permutation ps (sorted ps) (sorted_shuffled ps)

pub total_sorted : (f : Pair → ℕ) (ps : List Pair) → total f (sorted ps) ≡ total f ps
total_sorted f ps = total_shuffled f ps (sorted ps) (sorted_shuffled ps)

-- a stamp below all those of a list weighs nothing
pub light : (s u : ℕ) (ps : List Pair) → s ≤ u → all_above u ps ≡ true → total (weight s) ps ≡ 0
light s u [] l h = refl
light s u (p ∷ ps) l h =
    let a = and_parts (nat_lt u p.stamp) (all_above u ps) h in
    let q : u < p.stamp = ltb-true _ _ a.0 in
    omega (arith, weight_off s p (omega arith), light s u ps l a.1)

head_first : (p q : Pair) (ps qs : List Pair) → in_order (q ∷ qs) ≡ true → ((s : ℕ) → total (weight s) (p ∷ ps) ≡ total (weight s) (q ∷ qs)) → p.stamp < q.stamp → ⊥
head_first p q ps qs o h l =
    let a = and_parts (all_above q.stamp qs) (in_order qs) o in
    omega (arith, h p.stamp, weight_at p.stamp p refl, weight_off p.stamp q (omega arith), light p.stamp q.stamp qs (omega arith) a.0)

-- two lists in order with the same sums are the same
pub same_by_sums : (ps qs : List Pair) → in_order ps ≡ true → in_order qs ≡ true → ((s : ℕ) → total (weight s) ps ≡ total (weight s) qs) → ps ≡ qs
same_by_sums [] [] o r h = refl
same_by_sums [] (q ∷ qs) o r h = absurd (omega (arith, h q.stamp, weight_at q.stamp q refl))
same_by_sums (p ∷ ps) [] o r h = absurd (omega (arith, h p.stamp, weight_at p.stamp p refl))
same_by_sums (p ∷ ps) (q ∷ qs) o r h =
    let a = and_parts (all_above p.stamp ps) (in_order ps) o in
    let b = and_parts (all_above q.stamp qs) (in_order qs) r in
    ⊎_elim
    (λ e.
    let n : p.packet ≡ q.packet = omega (arith, h p.stamp, weight_at p.stamp p refl, weight_at p.stamp q e, light p.stamp p.stamp ps (omega arith) a.0, light p.stamp q.stamp qs (omega arith) b.0) in
    let same : p ≡ q = λ k. record { stamp = e k; packet = n k } in
    let tails : (s : ℕ) → total (weight s) ps ≡ total (weight s) qs = λ s. omega (arith, h s, ap (weight s) same) in
    λ k. same k ∷ same_by_sums ps qs a.1 b.1 tails k)
    (⊎_elim (λ l. absurd (head_first p q ps qs r h l)) (λ l. absurd (head_first q p qs ps o (λ s. sym (h s)) l)))
    (cases_order p.stamp q.stamp)

-- the test for a stamp is the library's, so sorting does not change it
pub holds_any : (s : ℕ) (ps : List Pair) → list_any (λ p. s == p.stamp) ps ≡ holds s ps
holds_any s [] = refl
holds_any s (p ∷ ps) = ap (λ b. s == p.stamp || b) (holds_any s ps)

pub holds_sorted : (s : ℕ) (ps : List Pair) → holds s (sorted ps) ≡ holds s ps
holds_sorted s ps = sym (holds_any s (sorted ps)) ∙ sym (list_any-IsPermutation (λ p. s == p.stamp) ps (sorted ps) (sorted_shuffled ps)) ∙ holds_any s ps

-- a count of one more element
pub count_yes : {X : Type 0} (test : X → Bool) (x : X) (xs : List X) → test x ≡ true → count_by test (x ∷ xs) ≡ count_by test xs + 1
count_yes test x xs e = omega (arith, sum_by-cons (λ y. cond (test y) 1 0) x xs, cond-true {A = ℕ} (test x) 1 0 e)

pub count_no : {X : Type 0} (test : X → Bool) (x : X) (xs : List X) → test x ≡ false → count_by test (x ∷ xs) ≡ count_by test xs
count_no test x xs e = omega (arith, sum_by-cons (λ y. cond (test y) 1 0) x xs, cond-false {A = ℕ} (test x) 1 0 e)

-- no copy of a stamp, so it is not there; and the other way round
pub no_copy : (s : ℕ) (ps : List Pair) → copies s ps ≡ 0 → holds s ps ≡ false
unfolding copies
no_copy s [] h = refl
no_copy s (p ∷ ps) h =
    let split = sum_by-cons (λ q. cond (s == q.stamp) 1 0) p ps in
    or_from _ _ (ne_eqb _ _ (λ (e : s ≡ p.stamp). omega (arith, h, count_yes (λ q. s == q.stamp) p ps (eq-eqb s p.stamp e)))) (no_copy s ps (omega (arith, h, split)))

pub not_there : (s : ℕ) (ps : List Pair) → holds s ps ≡ false → copies s ps ≡ 0
unfolding copies
not_there s [] h = refl
not_there s (p ∷ ps) h =
    let a = or_parts (s == p.stamp) (holds s ps) h in
    count_no (λ q. s == q.stamp) p ps a.0 ∙ not_there s ps a.1

-- the copies of a stamp are the hits on it
pub copies_hits : (s : ℕ) (ps : List Pair) → copies s ps ≡ total (hit s) ps
unfolding copies
copies_hits s ps = sym (total_sum (hit s) ps)

-- no stamp twice
abbrev pub Apart : List Pair → Type 0
Apart ps = (s : ℕ) → copies s ps ≤ 1

-- the pairs behind the first
pub apart_tail : (p : Pair) (ps : List Pair) → Apart (p ∷ ps) → Apart ps
unfolding copies
apart_tail p ps a s = omega (arith, a s, sum_by-cons (λ q. cond (s == q.stamp) 1 0) p ps)

-- and no other has the stamp of the first
pub apart_head : (p : Pair) (ps : List Pair) → Apart (p ∷ ps) → holds p.stamp ps ≡ false
unfolding copies
apart_head p ps a = no_copy p.stamp ps (omega (arith, a p.stamp, count_yes (λ q. p.stamp == q.stamp) p ps (eq-eqb p.stamp p.stamp refl)))

pub sorted_in_order : (ps : List Pair) → Apart ps → in_order (sorted ps) ≡ true
sorted_in_order [] a = refl
sorted_in_order (p ∷ ps) a = put_in_order p (sorted ps) (sorted_in_order ps (apart_tail p ps a)) (holds_sorted p.stamp ps ∙ apart_head p ps a)
