-- Lists of pairs whose stamps rise: a pair's place among them, and a put. Assumes nothing.
use Rattle.std.specs.Prelude.{◌≡◌, ℕ, zero, suc, ◌+◌, ◌<◌, ◌≤◌, true, false, List, [], ◌∷◌, length, get_or, ◌==◌, nat_lt, slice_index_or, refl}
use Rattle.std.proofs.Common.{sym, ap, subst, ◌∙◌, not-suc-le-zero, le_of_suc-le-suc, arith}
use Rattle.std.specs.List.{insert as inserted}
use Rattle.std.proofs.lemmas.List.{get_or_default}
use Rattle.std.proofs.lemmas.Bool.Decides.{nat_tests}
use Rattle.std.proofs.lemmas.Bool.{ltb-true, lt-ltb, le-ltb, ne_eqb, eq-eqb, and_parts, and_from, or_from, or_parts, or_left, or_right, cond-true, cond-false, cond_both}
use Rattle.tick_machine.specs.Lists.{All, none, more, Rising, insert}
use Rattle.waiting_line.specs.declared.pair.Pair.{Pair}
use Rattle.waiting_line.specs.Lines.{stamp_of, holds}
use Rattle.waiting_line.specs.Kept.{blank, all_above, in_order}

-- the test for an order says the order
pub above_all : (s : ℕ) (ps : List Pair) → all_above s ps ≡ true → All (λ p. s < p.stamp) ps
above_all s [] h = none
above_all s (p ∷ ps) h = let q = and_parts (nat_lt s p.stamp) (all_above s ps) h in more (ltb-true _ _ q.0) (above_all s ps q.1)

pub order_rises : (ps : List Pair) → in_order ps ≡ true → Rising stamp_of ps
order_rises [] h = tt
order_rises (p ∷ ps) h = let q = and_parts (all_above p.stamp ps) (in_order ps) h in (above_all p.stamp ps q.0, order_rises ps q.1)

-- a stamp below all is above no more
pub above_less : (s u : ℕ) (ps : List Pair) → s < u → all_above u ps ≡ true → all_above s ps ≡ true
above_less s u [] l h = refl
above_less s u (p ∷ ps) l h =
    let q = and_parts (nat_lt u p.stamp) (all_above u ps) h in
    and_from _ _ (lt-ltb _ _ (omega (arith, ltb-true _ _ q.0))) (above_less s u ps l q.1)

pub above_fresh : (s : ℕ) (ps : List Pair) → all_above s ps ≡ true → holds s ps ≡ false
above_fresh s [] h = refl
above_fresh s (p ∷ ps) h =
    let q = and_parts (nat_lt s p.stamp) (all_above s ps) h in
    let l : s < p.stamp = ltb-true _ _ q.0 in
    or_from _ _ (ne_eqb _ _ (omega arith)) (above_fresh s ps q.1)

above_at : (s : ℕ) (ps : List Pair) (k : ℕ) → all_above s ps ≡ true → k < length ps → s < (get_or ps k blank).stamp
above_at s [] k h l = absurd (not-suc-le-zero l)
above_at s (p ∷ ps) zero h l = ltb-true _ _ (and_parts (nat_lt s p.stamp) (all_above s ps) h).0
above_at s (p ∷ ps) (suc k) h l = above_at s ps k (and_parts (nat_lt s p.stamp) (all_above s ps) h).1 (le_of_suc-le-suc l)

-- a later place has a later stamp
pub order_at : (ps : List Pair) (j k : ℕ) → in_order ps ≡ true → j ≤ k → k < length ps → (get_or ps j blank).stamp ≤ (get_or ps k blank).stamp
order_at [] j k h le l = absurd (not-suc-le-zero l)
order_at (p ∷ ps) zero zero h le l = omega arith
order_at (p ∷ ps) zero (suc k) h le l = let q = above_at p.stamp ps k (and_parts (all_above p.stamp ps) (in_order ps) h).0 (le_of_suc-le-suc l) in omega arith
order_at (p ∷ ps) (suc j) zero h le l = absurd (not-suc-le-zero le)
order_at (p ∷ ps) (suc j) (suc k) h le l = order_at ps j k (and_parts (all_above p.stamp ps) (in_order ps) h).1 (le_of_suc-le-suc le) (le_of_suc-le-suc l)

-- an element that was read, at the default of the definitions
pub read_at : (ps : List Pair) (i : ℕ) (p : Pair) → i < length ps → p ≡ slice_index_or ps i p → (get_or ps i blank).stamp ≡ p.stamp
read_at ps i p l e = ap stamp_of (get_or_default ps i blank p l ∙ sym e)

-- the pair stands at the place whose earlier stamps are less and whose own is more
pub placed : (ps : List Pair) (i : ℕ) (p : Pair) → i ≤ length ps → ((k : ℕ) → k < i → (get_or ps k blank).stamp < p.stamp) → (i < length ps → p.stamp < (get_or ps i blank).stamp) → inserted ps i p ≡ insert stamp_of p ps
placed [] zero p le lo hi = refl
placed [] (suc i) p le lo hi = absurd (not-suc-le-zero le)
placed (q ∷ ps) zero p le lo hi = sym (cond-true (nat_lt p.stamp q.stamp) _ _ (lt-ltb _ _ (hi (omega arith))))
placed (q ∷ ps) (suc i) p le lo hi =
    let l = lo 0 (omega arith) in
    ap (λ (l : List Pair). q ∷ l) (placed ps i p (le_of_suc-le-suc le) (λ k h. lo (suc k) (omega arith)) (λ h. hi (omega arith)))
    ∙ sym (cond-false (nat_lt p.stamp q.stamp) _ _ (le-ltb _ _ (omega arith)))

pub fresh : (ps : List Pair) (i : ℕ) (s : ℕ) → i ≤ length ps → in_order ps ≡ true → ((k : ℕ) → k < i → (get_or ps k blank).stamp < s) → (i < length ps → s < (get_or ps i blank).stamp) → holds s ps ≡ false
fresh [] i s le o lo hi = refl
fresh (q ∷ ps) zero s le o lo hi =
    let l = hi (omega arith) in
    or_from _ _ (ne_eqb _ _ (omega arith)) (above_fresh _ ps (above_less s q.stamp ps l (and_parts (all_above q.stamp ps) (in_order ps) o).0))
fresh (q ∷ ps) (suc i) s le o lo hi =
    let l = lo 0 (omega arith) in
    or_from _ _ (ne_eqb _ _ (omega arith)) (fresh ps i s (le_of_suc-le-suc le) (and_parts (all_above q.stamp ps) (in_order ps) o).1 (λ k h. lo (suc k) (omega arith)) (λ h. hi (omega arith)))

pub found : (ps : List Pair) (i s : ℕ) → i < length ps → s ≡ (get_or ps i blank).stamp → holds s ps ≡ true
found [] i s l e = absurd (not-suc-le-zero l)
found (q ∷ ps) zero s l e = or_left _ (holds s ps) (eq-eqb s q.stamp e)
found (q ∷ ps) (suc i) s l e = or_right (s == q.stamp) _ (found ps i s (le_of_suc-le-suc l) e)

-- a put above s
pub above_put : (s : ℕ) (p : Pair) (ps : List Pair) → s < p.stamp → all_above s ps ≡ true → all_above s (insert stamp_of p ps) ≡ true
above_put s p [] l h = and_from _ _ (lt-ltb _ _ l) refl
above_put s p (q ∷ ps) l h =
    let a = and_parts (nat_lt s q.stamp) (all_above s ps) h in
    cond_both (nat_lt p.stamp q.stamp) _ _ (λ (ys : List Pair). all_above s ys ≡ true)
    (λ e. and_from _ _ (lt-ltb _ _ l) h) (λ e. and_from _ _ a.0 (above_put s p ps l a.1))

-- a put keeps the order
pub put_in_order : (p : Pair) (ps : List Pair) → in_order ps ≡ true → holds p.stamp ps ≡ false → in_order (insert stamp_of p ps) ≡ true
put_in_order p [] o f = refl
put_in_order p (q ∷ ps) o f =
    let a = and_parts (all_above q.stamp ps) (in_order ps) o in
    let b = or_parts (p.stamp == q.stamp) (holds p.stamp ps) f in
    cond_both (nat_lt p.stamp q.stamp) _ _ (λ (ys : List Pair). in_order ys ≡ true)
    (λ e. let l = ltb-true _ _ e in and_from _ _ (and_from _ _ e (above_less _ _ ps l a.0)) o)
    (λ e. and_from _ _ (above_put _ p ps (apart p.stamp q.stamp e b.0) a.0) (put_in_order p ps a.1 b.1))
  where
    apart : (a b : ℕ) → nat_lt a b ≡ false → (a == b) ≡ false → b < a
    apart a b e f = grind (arith, nat_tests)

-- a put makes the list longer by one
pub length_put : (p : Pair) (ps : List Pair) → length (insert stamp_of p ps) ≡ length ps + 1
length_put p [] = refl
length_put p (q ∷ ps) = cond_both (nat_lt p.stamp q.stamp) _ _ (λ (ys : List Pair). length ys ≡ suc (length ps) + 1)
    (λ e. omega arith) (λ e. omega (arith, length_put p ps))

-- the order of a sorted line after a put
pub put_kept : (p : Pair) (ps ys : List Pair) → ys ≡ insert stamp_of p ps → in_order ps ≡ true → holds p.stamp ps ≡ false → in_order ys ≡ true
put_kept p ps ys e o f = subst (λ (l : List Pair). in_order l ≡ true) (sym e) (put_in_order p ps o f)
