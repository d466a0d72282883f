-- A round server rebuilt from its cursor and its nexts stays one: serving moves the cursor, granting raises a next. Assumes nothing.
use Rattle.std.proofs.Common.{◌≡◌, ℕ, zero, suc, ◌+◌, ◌-◌, ◌<◌, ◌≤◌, max, Bool, true, eqb, ltb, List, [], ◌∷◌, length, get_or, set, replicate, sym, refl, ap, ◌∙◌, subst, ⊎_elim, arith, get_or-set_other, get_or-set_same}
use Rattle.std.proofs.lemmas.Bool.Decides.{nat_tests}
use Rattle.std.proofs.lemmas.Bool.{cases_eq, cases_lt, ne_eqb, eq-eqb, ltb-true, lt-ltb, cond_both, cond-true}
use Rattle.tick_machine.specs.Lists.{only, All, none, more, Rising, insert_all, final}
use Rattle.tick_machine.specs.Slots.{owner}
use Rattle.tick_machine.specs.Round.{Round, fresh_round, granted, stamp, grant, add, serve, round_tick}
use Rattle.tick_machine.specs.Owed.{from, kept, greatest, owed_slots, shown_round}
use Rattle.tick_machine.proofs.Lists.{head, tail, all_map, all_zip, all_insert_all, rising_insert_all, total_insert_all, only_yes, only_no}
use Rattle.tick_machine.proofs.Slots.{Fresh, fresh}
use Rattle.tick_machine.proofs.Serving.{serve_next}
use Rattle.tick_machine.proofs.Known.{times, Known, known_apart, known_more, known_new}

abbrev pub There : ℕ → List ℕ → Type 0
There q os = 1 ≤ times q os

-- what holds of each holds of one that is there
pub all_there : (P : ℕ → Type 0) (q : ℕ) (os : List ℕ) → All P os → There q os → P q
all_there P q [] h t = absurd (omega arith)
all_there P q (o ∷ os) h t =
    ⊎_elim
    (λ (e : o ≡ q). subst P e (head h))
    (λ (d : o ≡ q → ⊥). all_there P q os (tail h) (omega (arith, only_no (eqb o q) 1 (ne_eqb o q d))))
    (cases_eq o q)

there_head : (q : ℕ) (os : List ℕ) → There q (q ∷ os)
there_head q os = grind (arith, nat_tests)

pub least_there : (o q : ℕ) (os : List ℕ) → Rising (λ s. s) (o ∷ os) → There q (o ∷ os) → o ≤ q
least_there o q os r t = all_there (λ s. o ≤ s) q (o ∷ os) (more (omega arith) (all_map r.0 (λ s l. omega arith))) t

there_later : (o q : ℕ) (os : List ℕ) → o < q → There q (o ∷ os) → There q os
there_later o q os l t = grind (arith, nat_tests)

-- two rising lists of the same slots are one
pub rising_same : (xs ys : List ℕ) → Rising (λ s. s) xs → Rising (λ s. s) ys
    → ((q : ℕ) → There q xs → There q ys) → ((q : ℕ) → There q ys → There q xs) → xs ≡ ys
rising_same [] [] r s f g = refl
rising_same [] (y ∷ ys) r s f g = absurd (omega (arith, g y (there_head y ys)))
rising_same (x ∷ xs) [] r s f g = absurd (omega (arith, f x (there_head x xs)))
rising_same (x ∷ xs) (y ∷ ys) r s f g =
    let e : x ≡ y = omega (arith, least_there y x ys s (f x (there_head x xs)), least_there x y xs r (g y (there_head y ys))) in
    let tails : xs ≡ ys
    = rising_same xs ys r.1 s.1
    (λ q t. let l : x < q = all_there (λ o. x < o) q xs r.0 t in there_later y q ys (omega arith) (f q (omega arith)))
    (λ q t. let l : y < q = all_there (λ o. y < o) q ys s.0 t in there_later x q xs (omega arith) (g q (omega arith))) in
    cc

from_above : (v k : ℕ) → All (λ q. v ≤ q) (from v k)
from_above v zero = none
from_above v (suc k) = more (omega arith) (all_map (from_above (suc v) k) (λ q l. omega arith))

module _ (test : ℕ → Bool) where
  kept_all : (P : ℕ → Type 0) (qs : List ℕ) → All P qs → All (λ q. P q × (test q ≡ true)) (kept test qs)
  kept_all P [] h = none
  kept_all P (q ∷ qs) h =
      let ih = kept_all P qs (tail h) in
      cond_both (test q) (q ∷ kept test qs) (kept test qs) (All (λ q. P q × (test q ≡ true))) (λ e. more (head h, e) ih) (λ e. ih)

  kept_rising : (v k : ℕ) → Rising (λ s. s) (kept test (from v k))
  kept_rising v zero = tt
  kept_rising v (suc k) =
      let ih = kept_rising (suc v) k in
      let above = kept_all (λ q. suc v ≤ q) (from (suc v) k) (from_above (suc v) k) in
      cond_both (test v) (v ∷ kept test (from (suc v) k)) (kept test (from (suc v) k)) (Rising (λ s. s))
      (λ e. (all_map above (λ q h. h.0), ih)) (λ e. ih)

  kept_there : (v k q : ℕ) → v ≤ q → q < v + k → test q ≡ true → There q (kept test (from v k))
  kept_there v zero q l u t = absurd (omega arith)
  kept_there v (suc k) q l u t =
      ⊎_elim
      (λ (e : v ≡ q). subst (λ os. There q os) (sym (cond-true (test v) (v ∷ kept test (from (suc v) k)) (kept test (from (suc v) k)) (ap test e ∙ t)))
      (omega (arith, only_yes (eqb v q) 1 (eq-eqb v q e))))
      (λ (d : v ≡ q → ⊥).
      let ih = kept_there (suc v) k q (omega (arith, d)) (omega arith) t in
      cond_both (test v) (v ∷ kept test (from (suc v) k)) (kept test (from (suc v) k)) (λ os. There q os) (λ e. omega (arith, ih)) (λ e. ih))
      (cases_eq v q)

greatest_above : (ns : List ℕ) (i : ℕ) → get_or ns i 0 ≤ greatest ns
greatest_above [] i = omega arith
greatest_above (n ∷ ns) zero = omega arith
greatest_above (n ∷ ns) (suc i) = omega (arith, greatest_above ns i)

module _ (ws : List ℕ) (v : ℕ) (next : List ℕ) where
  shown_rising : Rising (λ s. s) (shown_round ws v next).owed
  shown_rising = kept_rising (λ q. ltb q (get_or next (owner ws q) 0)) v (greatest next - v)

  shown_all : All (λ q. (v ≤ q) × Known ws next q) (shown_round ws v next).owed
  shown_all =
      let test : ℕ → Bool = λ q. ltb q (get_or next (owner ws q) 0) in
      all_map (kept_all test (λ q. v ≤ q) (from v (greatest next - v)) (from_above v (greatest next - v)))
      (λ q h. (h.0, ltb-true q (get_or next (owner ws q) 0) h.1))

  shown_there : (q : ℕ) → v ≤ q → Known ws next q → There q (shown_round ws v next).owed
  shown_there q l k =
      kept_there (λ q. ltb q (get_or next (owner ws q) 0)) v (greatest next - v) q l
      (omega (arith, greatest_above next (owner ws q))) (lt-ltb q (get_or next (owner ws q) 0) k)

-- serving moves the cursor past the lowest owed slot
pub shown_serve : (ws : List ℕ) (v : ℕ) (next : List ℕ)
    → serve (shown_round ws v next).owed (shown_round ws v next) ≡ shown_round ws (serve (shown_round ws v next).owed (shown_round ws v next)).cursor next
shown_serve ws v next = go (shown_round ws v next).owed refl
  where
    go : (os : List ℕ) → (shown_round ws v next).owed ≡ os → serve os (shown_round ws v next) ≡ shown_round ws (serve os (shown_round ws v next)).cursor next
    go [] e = ap (λ os. record { cursor = v; owed = os; next = next }) (sym e)
    go (q ∷ qs) e =
        let up : Rising (λ s. s) (q ∷ qs) = subst (Rising (λ s. s)) e (shown_rising ws v next) in
        let all : All (λ s. (v ≤ s) × Known ws next s) (q ∷ qs) = subst (All (λ s. (v ≤ s) × Known ws next s)) e (shown_all ws v next) in
        ap (λ os. record { cursor = q + 1; owed = os; next = next })
        (rising_same qs (shown_round ws (q + 1) next).owed up.1 (shown_rising ws (q + 1) next)
        (λ s t. shown_there ws (q + 1) next s (omega (arith, all_there (λ o. q < o) s qs up.0 t)) (all_there (λ o. (v ≤ o) × Known ws next o) s qs (tail all) t).1)
        (λ s t.
        let k = all_there (λ o. (q + 1 ≤ o) × Known ws next o) s (shown_round ws (q + 1) next).owed (shown_all ws (q + 1) next) t in
        there_later q s qs (omega (arith, k.0)) (subst (There s) e (shown_there ws v next s (omega (arith, (head all).0, k.0)) k.1))))

-- granting raises the session's next
pub shown_grant : (ws : List ℕ) (i n v : ℕ) (next : List ℕ) → i < length next
    → Fresh ws i n (max v (get_or next i 0)) (granted ws i n (shown_round ws v next))
    → grant i (granted ws i n (shown_round ws v next)) (shown_round ws v next) ≡ shown_round ws v (set next i (final 0 (granted ws i n (shown_round ws v next)) + 1))
shown_grant ws i n v next l f =
    let r = shown_round ws v next in
    let got = granted ws i n r in
    let low = max v (get_or next i 0) in
    let t = final 0 got in
    let next' = set next i (t + 1) in
    let old = r.owed in
    let new = (shown_round ws v next').owed in
    let Mine : ℕ → Type 0 = λ s. (low ≤ s) × (owner ws s ≡ i) in
    let Held : ℕ → Type 0 = λ s. (v ≤ s) × Known ws next s in
    let Holds : ℕ → Type 0 = λ s. (v ≤ s) × Known ws next' s in
    let up : Rising (λ s. s) (insert_all got old)
    = rising_insert_all got old f.rising
    (all_map f.mine (λ s m. all_map (shown_all ws v next) (λ o k. known_apart ws i n low got f next (omega arith) s o m k.1)))
    (shown_rising ws v next) in
    let all : All Holds (insert_all got old)
    = all_insert_all got old
    (all_zip f.mine f.top (λ s m u. (omega (arith, m.0), known_new ws i n low got f next l s u m.1)))
    (all_map (shown_all ws v next) (λ s k. (k.0, known_more ws i n low got f next (omega arith) l s k.1))) in
    ap (λ os. record { cursor = v; owed = os; next = next' })
    (rising_same (insert_all got old) new up (shown_rising ws v next')
    (λ s h. let k = all_there Holds s (insert_all got old) all h in shown_there ws v next' s k.0 k.1)
    (λ s h.
    let k = all_there Holds s new (shown_all ws v next') h in
    let sum = total_insert_all (λ o. only (eqb o s) 1) got old in
    ⊎_elim
    (λ (e : owner ws s ≡ i).
    let k' : s < get_or next' i 0 = subst (λ x. s < get_or next' x 0) e k.1 in
    let below : s ≤ t = omega (arith, get_or-set_same next i (t + 1) 0 l) in
    ⊎_elim
    (λ (before : s < get_or next i 0). omega (arith, shown_there ws v next s k.0 (subst (λ x. s < get_or next x 0) (sym e) before)))
    (λ (since : get_or next i 0 ≤ s). omega (arith, f.full s (omega (arith, k.0)) e below))
    (cases_lt s (get_or next i 0)))
    (λ (d : owner ws s ≡ i → ⊥). omega (arith, shown_there ws v next s k.0 (subst (λ x. s < x) (get_or-set_other next i (owner ws s) (t + 1) 0 d) k.1)))
    (cases_eq (owner ws s) i)))

-- at first nothing is owed
greatest_zeros : (n : ℕ) → greatest (replicate n 0) ≡ 0
greatest_zeros zero = refl
greatest_zeros (suc n) = omega (arith, greatest_zeros n)

pub shown_fresh : (ws : List ℕ) → fresh_round ws ≡ shown_round ws 0 (replicate (length ws) 0)
shown_fresh ws =
    let next = replicate (length ws) 0 in
    let none_owed : owed_slots ws 0 next ≡ []
    = ap (λ n. kept (λ q. ltb q (get_or next (owner ws q) 0)) (from 0 n)) (let z = greatest_zeros (length ws) in let e : greatest next - 0 ≡ 0 = omega arith in e) in
    ap (λ os. record { cursor = 0; owed = os; next = next }) (sym none_owed)

-- a packet of n bytes of session i is accepted
pub shown_add : (ws : List ℕ) (i n v : ℕ) (next : List ℕ) → All (λ w. 1 ≤ w) ws → i < length ws → length next ≡ length ws → 1 ≤ n
    → add ws i n (shown_round ws v next) ≡ shown_round ws v (set next i (stamp ws i n (shown_round ws v next) + 1))
shown_add ws i n v next h l e s = shown_grant ws i n v next (omega arith) (fresh ws i n (max v (get_or next i 0)) h l s)

-- what a round server of that form is: the owed slots rise, none is below the cursor, each is below its owner's next, and none is left out
pub record Tidy (ws : List ℕ) (r : Round) : Type 0 where
  pub rising : Rising (λ s. s) r.owed
  pub ahead : All (λ q. r.cursor ≤ q) r.owed
  pub known : All (Known ws r.next) r.owed
  pub full : (q : ℕ) → r.cursor ≤ q → Known ws r.next q → There q r.owed

pub shown_tidy : (ws : List ℕ) (r : Round) → r ≡ shown_round ws r.cursor r.next → Tidy ws r
shown_tidy ws r e =
    let v = r.cursor in
    let next = r.next in
    subst (Tidy ws) (sym e) (record {
      rising = shown_rising ws v next;
      ahead = all_map (shown_all ws v next) (λ q h. h.0);
      known = all_map (shown_all ws v next) (λ q h. h.1);
      full = shown_there ws v next;
    })

-- a round server of that form keeps it, by a tick and by a packet
pub tick_shown : (ws : List ℕ) (r : Round) → r ≡ shown_round ws r.cursor r.next
    → round_tick r ≡ shown_round ws (round_tick r).cursor (round_tick r).next
tick_shown ws r e = subst (λ x. round_tick x ≡ shown_round ws (round_tick x).cursor (round_tick x).next) (sym e) (go r.cursor r.next)
  where
    go : (v : ℕ) (next : List ℕ) → round_tick (shown_round ws v next)
        ≡ shown_round ws (round_tick (shown_round ws v next)).cursor (round_tick (shown_round ws v next)).next
    go v next =
        shown_serve ws v next
        ∙ ap (shown_round ws (round_tick (shown_round ws v next)).cursor) (serve_next (shown_round ws v next).owed (shown_round ws v next))

pub add_shown : (ws : List ℕ) (i n : ℕ) (r : Round) → All (λ w. 1 ≤ w) ws → i < length ws → length r.next ≡ length ws → 1 ≤ n
    → r ≡ shown_round ws r.cursor r.next → add ws i n r ≡ shown_round ws (add ws i n r).cursor (add ws i n r).next
add_shown ws i n r h l m s e =
    subst (λ x. add ws i n x ≡ shown_round ws (add ws i n x).cursor (add ws i n x).next) (sym e)
    (shown_add ws i n r.cursor r.next h l m s)
