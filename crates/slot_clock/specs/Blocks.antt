-- Blocks of positions: the code's loops and closed forms give owners and counts. Nothing else here looks into the blocks. Assumes nothing.
use Rattle.std.specs.Prelude.{◌≡◌, ℕ, zero, suc, ◌+◌, ◌-◌, ◌*◌, ◌/◌, ◌%◌, ◌<◌, ◌≤◌, min, Bool, true, false, List, [], ◌∷◌, length, drop, nat_lt, slice_index, refl}
use Rattle.std.proofs.Math.Path.{sym, ap}
use Rattle.std.proofs.Common.{subst, ◌∙◌, ⊎_elim, add-one, zero-add, suc-add, mod-lt, drop-cons}
use native.Mathlib.Omega.{arith}
use Rattle.std.proofs.Math.Nat.{add-mod_right, mod-eq_of_lt, div-add-mod, mul-add-mod_self_left}
use Rattle.std.proofs.lemmas.List.{drop_all}
use Rattle.std.proofs.lemmas.Bool.{lt-ltb, le-ltb, cases_lt, cases_Bool, cond-true, cond-false}
use Rattle.tick_machine.specs.Lists.{only, count}
use Rattle.tick_machine.specs.Slots.{round_length, holder, owner}
use Rattle.tick_machine.proofs.Lists.{only_yes, only_no, only_at_most}
use Rattle.tick_machine.proofs.Counts.{count_same, count_split}
use Rattle.tick_machine.proofs.Ownership.{holder_front, holder_back}
use Rattle.slot_clock.specs.Layout.{whole, part, place}
use Rattle.slot_clock.specs.Counts.{count_flat, count_most, count_below}

pub times_least : (m w : ℕ) → 0 < w → m * 1 ≤ m * w
times_least m (suc w) l = omega arith
times_least m zero l = absurd (omega arith)

-- the loop that looks a position's owner up: from the session i on, the position p is left
pub record Left (ws : List ℕ) (position i p : ℕ) : Type 0 where
  pub within : p < round_length (drop i ws)
  pub same : holder ws position ≡ i + holder (drop i ws) p
  pub there : i < length ws

pub left_there : (ws : List ℕ) (i p : ℕ) → p < round_length (drop i ws) → i < length ws
left_there [] zero p h = absurd (omega arith)
left_there [] (suc i) p h = absurd (omega arith)
left_there (w ∷ ws) zero p h = omega arith
left_there (w ∷ ws) (suc i) p h = omega (arith, left_there ws i p h)

left_step : (ws : List ℕ) (i p : ℕ) → p < round_length (drop i ws) → slice_index ws i ≤ p
    → (p - slice_index ws i < round_length (drop (suc i) ws)) × (holder (drop i ws) p ≡ suc (holder (drop (suc i) ws) (p - slice_index ws i)))
left_step [] zero p h l = absurd (omega arith)
left_step [] (suc i) p h l = absurd (omega arith)
left_step (w ∷ ws) zero p h l = (omega arith, holder_back w p ws l)
left_step (w ∷ ws) (suc i) p h l = left_step ws i p h l

left_found : (ws : List ℕ) (i p : ℕ) → i < length ws → p < slice_index ws i → holder (drop i ws) p ≡ 0
left_found [] zero p h l = absurd (omega arith)
left_found [] (suc i) p h l = absurd (omega arith)
left_found (w ∷ ws) zero p h l = holder_front w p ws l
left_found (w ∷ ws) (suc i) p h l = left_found ws i p (omega arith) l

pub left_first : (ws : List ℕ) (p : ℕ) → p < round_length ws → Left ws p 0 p
left_first ws p h = record { within = h; same = omega arith; there = left_there ws 0 p h }

pub left_next : (ws : List ℕ) (position i p : ℕ) → Left ws position i p → slice_index ws i ≤ p → Left ws position (i + 1) (p - slice_index ws i)
left_next ws position i p h l =
    let s = left_step ws i p h.within l in
    rw add-one (record { within = s.0; same = omega (arith, h.same, s.1); there = left_there ws (suc i) (p - slice_index ws i) s.0 })

pub left_last : (ws : List ℕ) (position i p : ℕ) → Left ws position i p → p < slice_index ws i → i ≡ holder ws position
left_last ws position i p h l = omega (arith, h.same, left_found ws i p h.there l)

-- the loops over the sessions
pub round_more : (ws : List ℕ) (i : ℕ) → i < length ws → round_length (drop i ws) ≡ slice_index ws i + round_length (drop (i + 1) ws)
round_more ws i l = rw add-one (ap round_length (drop-cons ws i 0 l))

module _ (b : ℕ → Bool) (ws : List ℕ) (i : ℕ) where
  module _ (l : i < length ws) where
    at_head : drop i ws ≡ slice_index ws i ∷ drop (suc i) ws
    at_head = drop-cons ws i 0 l

    pub whole_more : whole b i (drop i ws) ≡ only (b i) (slice_index ws i) + whole b (i + 1) (drop (i + 1) ws)
    whole_more = rw add-one (ap (whole b i) at_head)

    pub part_more : (p : ℕ) → part b i (drop i ws) p ≡ only (b i) (min p (slice_index ws i)) + part b (i + 1) (drop (i + 1) ws) (p - slice_index ws i)
    part_more p = rw add-one (ap (λ vs. part b i vs p) at_head)

    pub place_here : (u : ℕ) → b i ≡ true → u < slice_index ws i → place b i (drop i ws) u ≡ u
    place_here u e k = ap (λ vs. place b i vs u) at_head ∙ cond-true (b i) _ _ e ∙ cond-true (nat_lt u (slice_index ws i)) _ _ (lt-ltb u (slice_index ws i) k)

    pub place_past : (u : ℕ) → b i ≡ true → slice_index ws i ≤ u → place b i (drop i ws) u ≡ slice_index ws i + place b (i + 1) (drop (i + 1) ws) (u - slice_index ws i)
    place_past u e k = rw add-one (ap (λ vs. place b i vs u) at_head ∙ cond-true (b i) _ _ e ∙ cond-false (nat_lt u (slice_index ws i)) _ _ (le-ltb u (slice_index ws i) k))

    pub place_idle : (u : ℕ) → b i ≡ false → place b i (drop i ws) u ≡ slice_index ws i + place b (i + 1) (drop (i + 1) ws) u
    place_idle u e = rw add-one (ap (λ vs. place b i vs u) at_head ∙ cond-false (b i) _ _ e)

  pub whole_end : length ws ≤ i → whole b i (drop i ws) ≡ 0
  whole_end l = ap (whole b i) (drop_all i ws l)

  pub part_end : (p : ℕ) → length ws ≤ i → part b i (drop i ws) p ≡ 0
  part_end p l = ap (λ vs. part b i vs p) (drop_all i ws l)

pub whole_most : (b : ℕ → Bool) (i : ℕ) (ws : List ℕ) → whole b i ws ≤ round_length ws
whole_most b i [] = omega arith
whole_most b i (w ∷ ws) = omega (arith, only_at_most (b i) w, whole_most b (suc i) ws)

pub part_most : (b : ℕ → Bool) (i : ℕ) (ws : List ℕ) (p : ℕ) → part b i ws p ≤ round_length ws
part_most b i [] p = omega arith
part_most b i (w ∷ ws) p = omega (arith, only_at_most (b i) (min p w), part_most b (suc i) ws (p - w))

part_none : (b : ℕ → Bool) (i : ℕ) (ws : List ℕ) → part b i ws 0 ≡ 0
part_none b i [] = refl
part_none b i (w ∷ ws) =
    let d : 0 - w ≡ 0 = omega arith in
    omega (arith, only_at_most (b i) (min 0 w), ap (part b (suc i) ws) d, part_none b (suc i) ws)

-- the session of the position p, where numbers start at i
at : ℕ → List ℕ → ℕ → ℕ
at i ws p = i + holder ws p

at_back : (i w : ℕ) (ws : List ℕ) (p : ℕ) → at i (w ∷ ws) (w + p) ≡ at (suc i) ws p
unfolding at
at_back i w ws p =
    let d : (w + p) - w ≡ p = omega arith in
    omega (arith, holder_back w (w + p) ws (omega arith), ap (holder ws) d)

at_front : (i w : ℕ) (ws : List ℕ) (p : ℕ) → p < w → at i (w ∷ ws) p ≡ i
unfolding at
at_front i w ws p l = omega (arith, holder_front w p ws l)

-- the positions below p that count
count_part : (b : ℕ → Bool) (i : ℕ) (ws : List ℕ) (p : ℕ) → p ≤ round_length ws → count (λ q. b (at i ws q)) p ≡ part b i ws p
count_part b i [] p l = let e : p ≡ 0 = omega arith in ap (count (λ q. b (at i [] q))) e
count_part b i (w ∷ ws) p l =
    let f : ℕ → Bool = λ q. b (at i (w ∷ ws) q) in
    ⊎_elim
    (λ (k : p < w).
    let c = count_flat f (b i) p (λ q u. ap b (at_front i w ws q (omega arith))) in
    let m : min p w ≡ p = omega arith in
    let d : p - w ≡ 0 = omega arith in
    omega (arith, c, ap (only (b i)) m, ap (part b (suc i) ws) d, part_none b (suc i) ws))
    (λ (k : w ≤ p).
    let e : w + (p - w) ≡ p = omega arith in
    let c = count_flat f (b i) w (λ q u. ap b (at_front i w ws q u)) in
    let m : min p w ≡ w = omega arith in
    let g = count_same (λ q. f (w + q)) (λ q. b (at (suc i) ws q)) (p - w) (λ q u. ap b (at_back i w ws q)) in
    omega (arith, c, ap (only (b i)) m, count_split f w (p - w), ap (count f) e, g, count_part b (suc i) ws (p - w) (omega arith)))
    (cases_lt p w)

-- all positions lie below the round's length
pub part_whole : (b : ℕ → Bool) (i : ℕ) (ws : List ℕ) → part b i ws (round_length ws) ≡ whole b i ws
part_whole b i [] = refl
part_whole b i (w ∷ ws) =
    let m : min (w + round_length ws) w ≡ w = omega arith in
    let d : (w + round_length ws) - w ≡ round_length ws = omega arith in
    omega (arith, ap (only (b i)) m, ap (part b (suc i) ws) d, part_whole b (suc i) ws)

-- what the place is
record Placed (b : ℕ → Bool) (i : ℕ) (ws : List ℕ) (u s : ℕ) : Type 0 where
  pub inside : s < round_length ws
  pub counts : b (at i ws s) ≡ true
  pub before : part b i ws s ≡ u

placed : (b : ℕ → Bool) (i : ℕ) (ws : List ℕ) (u : ℕ) → u < whole b i ws → Placed b i ws u (place b i ws u)
placed b i [] u l = absurd (omega arith)
placed b i (w ∷ ws) u l =
    ⊎_elim
    (λ (t : b i ≡ true).
    ⊎_elim
    (λ (k : u < w).
    let e : place b i (w ∷ ws) u ≡ u = cond-true (b i) _ _ t ∙ cond-true (nat_lt u w) _ _ (lt-ltb u w k) in
    let m : min u w ≡ u = omega arith in
    let d : u - w ≡ 0 = omega arith in
    subst (Placed b i (w ∷ ws) u) (sym e) (record {
      inside = omega arith;
      counts = ap b (at_front i w ws u k) ∙ t;
      before = omega (arith, only_yes (b i) (min u w) t, ap (part b (suc i) ws) d, part_none b (suc i) ws);
    }))
    (λ (k : w ≤ u).
    let v = u - w in
    let e : place b i (w ∷ ws) u ≡ w + place b (suc i) ws v = cond-true (b i) _ _ t ∙ cond-false (nat_lt u w) _ _ (le-ltb u w k) in
    let ih = placed b (suc i) ws v (omega (arith, only_yes (b i) w t)) in
    subst (Placed b i (w ∷ ws) u) (sym e) (back true t u v (omega arith) ih))
    (cases_lt u w))
    (λ (t : b i ≡ false).
    let e : place b i (w ∷ ws) u ≡ w + place b (suc i) ws u = cond-false (b i) _ _ t in
    let ih = placed b (suc i) ws u (omega (arith, only_no (b i) w t)) in
    subst (Placed b i (w ∷ ws) u) (sym e) (back false t u u (omega arith) ih))
    (cases_Bool (b i))
  where
    back : (x : Bool) → b i ≡ x → (u v : ℕ) → u ≡ only x w + v → Placed b (suc i) ws v (place b (suc i) ws v) → Placed b i (w ∷ ws) u (w + place b (suc i) ws v)
    back x t u v e ih =
        let s = place b (suc i) ws v in
        let m : min (w + s) w ≡ w = omega arith in
        let d : (w + s) - w ≡ s = omega arith in
        record {
          inside = omega (arith, ih.inside);
          counts = ap b (at_back i w ws s) ∙ ih.counts;
          before = omega (arith, ap (λ y. only y w) t, ap (only (b i)) m, ap (part b (suc i) ws) d, ih.before, e);
        }

module _ (b : ℕ → Bool) (ws : List ℕ) where
  same_at : (q : ℕ) → q < round_length ws → b (owner ws q) ≡ b (at 0 ws q)
  unfolding at
  same_at q l = ap b (ap (holder ws) (mod-eq_of_lt l) ∙ sym (zero-add (holder ws q)))

  first_part : (p : ℕ) → p ≤ round_length ws → count (λ q. b (owner ws q)) p ≡ part b 0 ws p
  first_part p l = count_same (λ q. b (owner ws q)) (λ q. b (at 0 ws q)) p (λ q k. same_at q (omega arith)) ∙ count_part b 0 ws p l

  pub whole_count : count (λ q. b (owner ws q)) (round_length ws) ≡ whole b 0 ws
  whole_count = first_part (round_length ws) (omega arith) ∙ part_whole b 0 ws

  a_round : (a : ℕ) → count (λ q. b (owner ws q)) (a + round_length ws) ≡ count (λ q. b (owner ws q)) a + whole b 0 ws
  a_round zero = ap (count (λ q. b (owner ws q))) (zero-add (round_length ws)) ∙ whole_count ∙ sym (zero-add (whole b 0 ws))
  a_round (suc a) =
      let f : ℕ → Bool = λ q. b (owner ws q) in
      let e : count f (suc a + round_length ws) ≡ count f (suc (a + round_length ws)) = ap (count f) (suc-add a (round_length ws)) in
      let same : only (f (a + round_length ws)) 1 ≡ only (f a) 1 = ap (λ x. only (b (holder ws x)) 1) (add-mod_right a (round_length ws)) in
      omega (arith, e, same, a_round a)

  mask_rounds : (a k : ℕ) → count (λ q. b (owner ws q)) (a + k * round_length ws) ≡ count (λ q. b (owner ws q)) a + k * whole b 0 ws
  mask_rounds a zero =
      let f : ℕ → Bool = λ q. b (owner ws q) in
      let e : a + 0 * round_length ws ≡ a = omega arith in
      omega (arith, ap (count f) e)
  mask_rounds a (suc k) =
      let f : ℕ → Bool = λ q. b (owner ws q) in
      let e : a + suc k * round_length ws ≡ (a + k * round_length ws) + round_length ws = omega arith in
      omega (arith, ap (count f) e, a_round (a + k * round_length ws), mask_rounds a k)

  -- whole rounds by one division
  rank_count : (x : ℕ) → 0 < round_length ws → count (λ q. b (owner ws q)) x ≡ (x / round_length ws) * whole b 0 ws + part b 0 ws (x % round_length ws)
  rank_count x l =
      let f : ℕ → Bool = λ q. b (owner ws q) in
      let n = round_length ws in
      let e : x % n + (x / n) * n ≡ x = omega (arith, div-add-mod x n) in
      omega (arith, ap (count f) e, mask_rounds (x % n) (x / n), first_part (x % n) (omega (arith, mod-lt x l)))

  -- as the code has it
  pub rank_done : (x n a r : ℕ) → n ≡ round_length ws → 0 < n → a ≡ whole b 0 ws → r ≡ part b 0 ws (x % n)
      → ((x / n) * a + r ≡ count (λ q. b (owner ws q)) x) × ((x / n) * a + r ≤ x)
  rank_done x n a r e l f h =
      let c = rank_count x (omega arith) in
      let p : (x / n) * a ≡ (x / round_length ws) * whole b 0 ws = ap (λ y. (x / y) * a) e ∙ ap (λ y. (x / round_length ws) * y) f in
      let q : part b 0 ws (x % n) ≡ part b 0 ws (x % round_length ws) = ap (λ y. part b 0 ws (x % y)) e in
      (omega arith, omega (arith, count_most (λ q. b (owner ws q)) x))

  -- the slot that counts in the k-th round and has u before it in that round
  module _ (k u : ℕ) (some : u < whole b 0 ws) where
    abbrev there : ℕ
    there = k * round_length ws + place b 0 ws u

    there_counts : b (owner ws there) ≡ true
    unfolding at
    there_counts =
        let p = place b 0 ws u in
        let h = placed b 0 ws u some in
        let n = round_length ws in
        let e : there ≡ n * k + p = omega arith in
        ap (λ x. b (holder ws x)) (ap (λ x. x % n) e ∙ mul-add-mod_self_left n k p ∙ mod-eq_of_lt h.inside)
        ∙ ap b (sym (zero-add (holder ws p))) ∙ h.counts

    there_rank : count (λ q. b (owner ws q)) there ≡ k * whole b 0 ws + u
    there_rank =
        let f : ℕ → Bool = λ q. b (owner ws q) in
        let p = place b 0 ws u in
        let h = placed b 0 ws u some in
        let e : there ≡ p + k * round_length ws = omega arith in
        omega (arith, ap (count f) e, mask_rounds p k, first_part p (omega (arith, h.inside)), h.before)

  -- what the slot that is looked for from a slot on is
  pub record Reached (from between r : ℕ) : Type 0 where
    pub counts : b (owner ws r) ≡ true
    pub rank : count (λ q. b (owner ws q)) r ≡ count (λ q. b (owner ws q)) from + between
    pub near : r < from + (between + 1) * round_length ws

  pub slot_done : (from between n a u p : ℕ) → n ≡ round_length ws → 0 < n → a ≡ whole b 0 ws → 0 < a → u ≡ part b 0 ws (from % n) + between → p ≡ place b 0 ws (u % a)
      → Reached from between ((from / n + u / a) * n + p)
  slot_done from between n a u p e l f s g h =
      let w = whole b 0 ws in
      let m = round_length ws in
      let k = from / n + u / a in
      let some : u % a < w = omega (arith, mod-lt u s) in
      let same : k * n + p ≡ k * m + place b 0 ws (u % a) = ap (λ x. k * x + p) e ∙ ap (λ x. k * m + x) h in
      let c = rank_count from (omega arith) in
      let q : part b 0 ws (from % n) ≡ part b 0 ws (from % m) = ap (λ y. part b 0 ws (from % y)) e in
      let d : from / n ≡ from / m = ap (λ y. from / y) e in
      let x : (from / n) * w ≡ (from / m) * w = ap (λ y. y * w) d in
      let y : (u / a) * a ≡ (u / a) * w = ap (λ y. (u / a) * y) f in
      let z : (from / n + u / a) * w ≡ (from / n) * w + (u / a) * w = omega arith in
      let r = there_rank k (u % a) some in
      let t = there_counts k (u % a) some in
      let v = div-add-mod u a in
      let mine : ℕ → Bool = λ q. b (owner ws q) in
      let rank : count mine (k * m + place b 0 ws (u % a)) ≡ count mine from + between = omega arith in
      let grows : (between + 1) * 1 ≤ (between + 1) * w = times_least (between + 1) w (omega arith) in
      let far : count mine (from + (between + 1) * m) ≡ count mine from + (between + 1) * w = mask_rounds from (between + 1) in
      subst (Reached from between) (sym same) (record { counts = t; rank = rank; near = count_below mine (k * m + place b 0 ws (u % a)) (from + (between + 1) * m) (omega arith) })
