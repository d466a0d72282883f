-- The counts by remainder, beside a heap of pairs. Assumes nothing.
use Rattle.std.proofs.Common.{◌≡◌, ℕ, zero, suc, ◌+◌, ◌≤◌, ◌≢◌, false, cond, eqb, List, [], ◌∷◌, ◌++◌, length, get_or, replicate, sym, refl, ap, ◌∙◌, subst, ⊎_elim, arith}
use Rattle.std.specs.List.Sorted.{IsPermutation}
use Rattle.std.proofs.lemmas.List.Sums.{sum_by_push, sum_by-cons, count_by-le-length}
use Rattle.std.proofs.lemmas.List.Sorted.{sum_by-IsPermutation}
use Rattle.std.proofs.lemmas.Bool.{ne_eqb, eq-eqb, or_from, cond-true, cond-false, cases_eq}
use Rattle.waiting_line.specs.declared.pair.Pair.{Pair}
use Rattle.waiting_line.specs.Lines.{holds}
use Rattle.waiting_line.specs.Kept.{remainder, sharing}
use Rattle.waiting_line.specs.Sums.{count_yes, length_sorted, holds_sorted}
use Rattle.waiting_line.proofs.Heaps.{put_sorted, least_first, none_taken, taken_apart, taken_sorted}

-- 1 where the remainder is r
abbrev share : ℕ → Pair → ℕ
share r p = cond (eqb r (remainder p.stamp)) 1 0

share_at : (r : ℕ) (p : Pair) → r ≡ remainder p.stamp → share r p ≡ 1
share_at r p e = cond-true (eqb r (remainder p.stamp)) _ _ (eq-eqb _ _ e)

share_off : (r : ℕ) (p : Pair) → (r ≢ remainder p.stamp) → share r p ≡ 0
share_off r p n = cond-false (eqb r (remainder p.stamp)) _ _ (ne_eqb _ _ n)

-- no more pairs share a remainder than there are
pub sharing_few : (r : ℕ) (ps : List Pair) → sharing r ps ≤ length ps
unfolding sharing
sharing_few r ps = count_by-le-length (λ p. eqb r (remainder p.stamp)) ps

-- where no pair shares a stamp's remainder, the stamp is not there
pub sharing_none : (s : ℕ) (ps : List Pair) → sharing (remainder s) ps ≡ 0 → holds s ps ≡ false
unfolding sharing
sharing_none s [] h = refl
sharing_none s (p ∷ ps) h =
    let split = sum_by-cons (share (remainder s)) p ps in
    or_from _ _ (ne_eqb _ _ (λ (e : s ≡ p.stamp). omega (arith, h, split, share_at (remainder s) p (ap remainder e)))) (sharing_none s ps (omega (arith, h, split)))

-- the counts of the pairs
abbrev pub Counted : List ℕ → List Pair → Type 0
Counted cs ps = (r : ℕ) → get_or cs r 0 ≡ sharing r ps

-- a put raises one count
pub put_counted : (p : Pair) (ps qs : List Pair) (cs ds : List ℕ) → IsPermutation (ps ++ p ∷ []) qs → Counted cs ps → get_or ds (remainder p.stamp) 0 ≡ get_or cs (remainder p.stamp) 0 + 1 → ((r : ℕ) → (r ≢ remainder p.stamp) → get_or ds r 0 ≡ get_or cs r 0) → Counted ds qs
unfolding sharing
put_counted p ps qs cs ds h c one others r =
    let count : sharing r qs ≡ sharing r ps + share r p = sum_by-IsPermutation (share r) _ qs h ∙ sum_by_push (share r) ps p in
    ⊎_elim
    (λ (e : r ≡ remainder p.stamp).
    let here : get_or ds r 0 ≡ get_or cs r 0 + 1 = subst (λ (k : ℕ). get_or ds k 0 ≡ get_or cs k 0 + 1) (sym e) one in
    omega (arith, here, c r, share_at r p e))
    (λ (n : r ≢ remainder p.stamp). omega (arith, others r n, c r, share_off r p n))
    (cases_eq r (remainder p.stamp))

-- a take lowers one
pub taken_some : (p : Pair) (ps qs : List Pair) (cs : List ℕ) → IsPermutation ps (p ∷ qs) → Counted cs ps → 1 ≤ get_or cs (remainder p.stamp) 0
unfolding sharing
taken_some p ps qs cs h c =
    let r = remainder p.stamp in
    omega (arith, c r, sum_by-IsPermutation (share r) ps _ h, sum_by-cons (share r) p qs, share_at r p refl)

pub taken_counted : (p : Pair) (ps qs : List Pair) (cs ds : List ℕ) → IsPermutation ps (p ∷ qs) → Counted cs ps → get_or ds (remainder p.stamp) 0 + 1 ≡ get_or cs (remainder p.stamp) 0 → ((r : ℕ) → (r ≢ remainder p.stamp) → get_or ds r 0 ≡ get_or cs r 0) → Counted ds qs
unfolding sharing
taken_counted p ps qs cs ds h c one others r =
    let count : share r p + sharing r qs ≡ sharing r ps = sym (sum_by-cons (share r) p qs) ∙ sum_by-IsPermutation (share r) ps _ h in
    ⊎_elim
    (λ (e : r ≡ remainder p.stamp).
    let here : get_or ds r 0 + 1 ≡ get_or cs r 0 = subst (λ (k : ℕ). get_or ds k 0 + 1 ≡ get_or cs k 0) (sym e) one in
    omega (arith, here, c r, share_at r p e))
    (λ (n : r ≢ remainder p.stamp). omega (arith, others r n, c r, share_off r p n))
    (cases_eq r (remainder p.stamp))

-- a table of zeros
zeros_at : (n k : ℕ) → ◌≡◌ {A = ℕ} (get_or (replicate n 0) k 0) 0
zeros_at zero k = refl
zeros_at (suc n) zero = refl
zeros_at (suc n) (suc k) = zeros_at n k

pub all_zero : (n : ℕ) (cs : List ℕ) → cs ≡ replicate n 0 → (k : ℕ) → get_or cs k 0 ≡ 0
all_zero n cs e k = subst (λ (l : List ℕ). get_or l k 0 ≡ 0) (sym e) (zeros_at n k)

-- what the check needs to know at a put, and at a take
pub ruleset of_a_put = (length_sorted, holds_sorted, put_sorted, sharing_few)

pub ruleset of_a_take = (least_first, none_taken, taken_apart, taken_sorted, taken_some, taken_counted)
