-- The sums over the busy sessions: who stands in the heap, and what a change does to it. Assumes nothing.
use Rattle.std.proofs.Common.{◌≡◌, ℕ, zero, suc, ◌+◌, ◌-◌, ◌<◌, ◌≤◌, Bool, true, false, ◌&&◌, eqb, ltb, List, [], ◌∷◌, length, get_or, set, replicate, sym, refl, ap, ◌∙◌, subst, ⊎_elim, arith}
use Rattle.std.proofs.lemmas.Bool.{lt-ltb, le-ltb, eqb-true, eq-eqb, ne_eqb, and_parts, and_from, cases_lt, cases_Bool}
use Rattle.tick_machine.specs.Lists.{total, only}
use Rattle.tick_machine.specs.Slots.{owner}
use Rattle.tick_machine.proofs.Lists.{only_yes, only_no}
use Rattle.tick_machine.proofs.Places.{total_ones}
use Rattle.slot_clock.specs.Walk.{Tops}
use Rattle.slot_clock.specs.declared.held.Held.{Held}
use Rattle.slot_clock.specs.Held.{weights_of, next_of}
use Rattle.slot_clock.specs.Sound.{near}
use Rattle.slot_clock.specs.Holding.{sound}
use Rattle.jump_clock.specs.declared.dry.Dry.{Dry}
use Rattle.jump_clock.specs.Ends.{blank, Ordered}
use Rattle.jump_clock.specs.Dries.{over_busy, Holds, Traded, Gained, Lost, missed, halfway}
use Rattle.jump_clock.specs.Jumps.{Ahead}
use Rattle.jump_clock.proofs.Heaps.{top}

-- a busy session counts
each : (f : Dry → ℕ) (v i j : ℕ) (ns : List ℕ) → j < length ns → v < get_or ns j 0 → f (record { end = get_or ns j 0; session = i + j }) ≤ over_busy f v i ns
each f v i j [] l u = absurd (omega arith)
each f v i zero (n ∷ ns) l u =
    let e : i + 0 ≡ i = omega arith in
    omega (arith, only_yes (ltb v n) (f (record { end = n; session = i })) (lt-ltb v n u), ap (λ x. f (record { end = n; session = x })) e)
each f v i (suc j) (n ∷ ns) l u =
    let e : i + suc j ≡ suc i + j = omega arith in
    omega (arith, each f v (suc i) j ns (omega arith) u, ap (λ x. f (record { end = get_or ns j 0; session = x })) e)

-- what counts is of a busy session
there : (f : Dry → ℕ) (v i : ℕ) (ns : List ℕ) → 1 ≤ over_busy f v i ns
    → (j : ℕ) × (j < length ns) × (v < get_or ns j 0) × (1 ≤ f (record { end = get_or ns j 0; session = i + j }))
there f v i [] h = absurd (omega arith)
there f v i (n ∷ ns) h =
    let e : i + 0 ≡ i = omega arith in
    let x = ap (λ x. f (record { end = n; session = x })) e in
    let later : 1 ≤ over_busy f v (suc i) ns → (j : ℕ) × (j < suc (length ns)) × (v < get_or (n ∷ ns) j 0) × (1 ≤ f (record { end = get_or (n ∷ ns) j 0; session = i + j }))
    = λ k.
    let ih = there f v (suc i) ns k in
    let y : suc i + ih.0 ≡ i + suc ih.0 = omega arith in
    (suc ih.0, omega (arith, ih.1), ih.2, omega (arith, ih.3, ap (λ x. f (record { end = get_or ns ih.0 0; session = x })) y)) in
    ⊎_elim
    (λ (u : v < n).
    let o = only_yes (ltb v n) (f (record { end = n; session = i })) (lt-ltb v n u) in
    ⊎_elim
    (λ (k : 0 < f (record { end = n; session = i })). (0, omega arith, u, omega (arith, x)))
    (λ (k : f (record { end = n; session = i }) ≤ 0). later (omega (arith, o)))
    (cases_lt 0 (f (record { end = n; session = i }))))
    (λ (u : n ≤ v). later (omega (arith, only_no (ltb v n) (f (record { end = n; session = i })) (le-ltb v n u))))
    (cases_lt v n)

total_none : (f : Dry → ℕ) (xs : List Dry) → ((k : ℕ) → k < length xs → f (get_or xs k blank) ≡ 0) → total f xs ≡ 0
total_none f [] h = refl
total_none f (x ∷ xs) h = omega (arith, h 0 (omega arith), total_none f xs (λ k l. h (suc k) (omega arith)))

total_each : (f : Dry → ℕ) (xs : List Dry) (k : ℕ) → k < length xs → f (get_or xs k blank) ≤ total f xs
total_each f [] k l = absurd (omega arith)
total_each f (x ∷ xs) zero l = omega arith
total_each f (x ∷ xs) (suc k) l = omega (arith, total_each f xs k (omega arith))

module _ (xs : List Dry) (v : ℕ) (next : List ℕ) (holds : Holds xs v next) where
  -- what stands in the heap is a busy session
  pub stands : (k : ℕ) → k < length xs
      → ((get_or xs k blank).session < length next) × (get_or next (get_or xs k blank).session 0 ≡ (get_or xs k blank).end) × (v < (get_or xs k blank).end)
  stands k l =
      let e = get_or xs k blank in
      let test : Dry → Bool = λ x. eqb x.end e.end && eqb x.session e.session in
      let f : Dry → ℕ = λ x. only (test x) 1 in
      let self : test e ≡ true = and_from _ _ (eq-eqb e.end e.end refl) (eq-eqb e.session e.session refl) in
      let h = there f v 0 next (omega (arith, holds f, total_each f xs k l, only_yes (test e) 1 self)) in
      let j = h.0 in
      let x : Dry = record { end = get_or next j 0; session = 0 + j } in
      let t : test x ≡ true
      = ⊎_elim (λ y. y) (λ (y : test x ≡ false). absurd (omega (arith, only_no (test x) 1 y, h.3))) (cases_Bool (test x)) in
      let p = and_parts _ _ t in
      let a : get_or next j 0 ≡ e.end = eqb-true x.end e.end p.0 in
      let b : 0 + j ≡ e.session = eqb-true x.session e.session p.1 in
      let c : j ≡ e.session = omega (arith, b) in
      (omega (arith, h.1, c), ap (λ m. get_or next m 0) (sym c) ∙ a, omega (arith, h.2, a))

  -- the first in the heap runs dry first
  pub leads : Ordered xs → 0 < length xs → (j : ℕ) → j < length next → v < get_or next j 0 → (get_or xs 0 blank).end ≤ get_or next j 0
  leads ordered l j k u =
      let r = (get_or xs 0 blank).end in
      let f : Dry → ℕ = λ x. only (ltb x.end r) 1 in
      let z = total_none f xs (λ p q. only_no (ltb (get_or xs p blank).end r) 1 (le-ltb _ r (top xs ordered p p (omega arith) q))) in
      let h = each f v 0 j next k u in
      ⊎_elim
      (λ (y : get_or next j 0 < r). absurd (omega (arith, z, h, holds f, only_yes (ltb (get_or next j 0) r) 1 (lt-ltb (get_or next j 0) r y))))
      (λ y. y)
      (cases_lt (get_or next j 0) r)

  -- an empty heap has no busy session
  pub none : length xs ≡ 0 → (j : ℕ) → j < length next → get_or next j 0 ≤ v
  none l j k =
      let f : Dry → ℕ = λ _. 1 in
      let z = total_none f xs (λ p q. absurd (omega arith)) in
      ⊎_elim (λ (u : v < get_or next j 0). absurd (omega (arith, z, holds f, each f v 0 j next k u))) (λ y. y) (cases_lt v (get_or next j 0))

  -- a session that does not stand there is not busy
  pub absent : (i : ℕ) → i < length next → ((k : ℕ) → k < length xs → (get_or xs k blank).session ≡ i → ⊥) → get_or next i 0 ≤ v
  absent i l h =
      let f : Dry → ℕ = λ x. only (eqb x.session i) 1 in
      let z = total_none f xs (λ p q. only_no (eqb (get_or xs p blank).session i) 1 (ne_eqb _ i (h p q))) in
      let e : 0 + i ≡ i = omega arith in
      ⊎_elim (λ (u : v < get_or next i 0). absurd (omega (arith, z, holds f, each f v 0 i next l u, only_yes (eqb (0 + i) i) 1 (eq-eqb (0 + i) i e)))) (λ y. y) (cases_lt v (get_or next i 0))

-- the same sessions are busy
over_same : (f : Dry → ℕ) (v u i : ℕ) (ns : List ℕ) → ((j : ℕ) → j < length ns → ltb v (get_or ns j 0) ≡ ltb u (get_or ns j 0)) → over_busy f v i ns ≡ over_busy f u i ns
over_same f v u i [] h = refl
over_same f v u i (n ∷ ns) h =
    omega (arith, ap (λ b. only b (f (record { end = n; session = i }))) (h 0 (omega arith)), over_same f v u (suc i) ns (λ j l. h (suc j) (omega arith)))

-- but for one, which was busy
over_less : (f : Dry → ℕ) (v u i j : ℕ) (ns : List ℕ) → j < length ns → v < get_or ns j 0 → get_or ns j 0 ≤ u
    → ((m : ℕ) → m < length ns → (m ≡ j → ⊥) → ltb v (get_or ns m 0) ≡ ltb u (get_or ns m 0)) → over_busy f u i ns + f (record { end = get_or ns j 0; session = i + j }) ≡ over_busy f v i ns
over_less f v u i j [] l a b h = absurd (omega arith)
over_less f v u i zero (n ∷ ns) l a b h =
    let e : i + 0 ≡ i = omega arith in
    let x : Dry = record { end = n; session = i } in
    omega (
      arith,
      only_yes (ltb v n) (f x) (lt-ltb v n a),
      only_no (ltb u n) (f x) (le-ltb u n b),
      ap (λ s. f (record { end = n; session = s })) e,
      over_same f v u (suc i) ns (λ m k. h (suc m) (omega arith) (λ z. omega arith)),
    )
over_less f v u i (suc j) (n ∷ ns) l a b h =
    let e : i + suc j ≡ suc i + j = omega arith in
    omega (
      arith,
      ap (λ c. only c (f (record { end = n; session = i }))) (h 0 (omega arith) (λ z. omega arith)),
      ap (λ s. f (record { end = get_or ns j 0; session = s })) e,
      over_less f v u (suc i) j ns (omega arith) a b (λ m k d. h (suc m) (omega arith) (λ z. d (omega arith))),
    )

-- a session's next is raised
over_set : (f : Dry → ℕ) (v i j n' : ℕ) (ns : List ℕ) → j < length ns → v < n'
    → over_busy f v i (set ns j n') + only (ltb v (get_or ns j 0)) (f (record { end = get_or ns j 0; session = i + j })) ≡ over_busy f v i ns + f (record { end = n'; session = i + j })
over_set f v i j n' [] l u = absurd (omega arith)
over_set f v i zero n' (n ∷ ns) l u =
    let e : i + 0 ≡ i = omega arith in
    let y = ap (λ s. f (record { end = n'; session = s })) e in
    let z = ap (λ s. only (ltb v n) (f (record { end = n; session = s }))) e in
    omega (arith, only_yes (ltb v n') (f (record { end = n'; session = i })) (lt-ltb v n' u), y, z)
over_set f v i (suc j) n' (n ∷ ns) l u =
    let e : i + suc j ≡ suc i + j = omega arith in
    let y = ap (λ s. f (record { end = n'; session = s })) e in
    let z = ap (λ s. only (ltb v (get_or ns j 0)) (f (record { end = get_or ns j 0; session = s }))) e in
    omega (arith, over_set f v (suc i) j n' ns (omega arith) u, y, z)

-- V moves, and no session runs dry
pub holds_on : (xs : List Dry) (v u : ℕ) (next : List ℕ) → v ≤ u → ((j : ℕ) → j < length next → v < get_or next j 0 → u < get_or next j 0) → Holds xs v next → Holds xs u next
holds_on xs v u next l h holds f =
    holds f ∙ over_same f v u 0 next (λ j k.
    ⊎_elim (λ (a : v < get_or next j 0). lt-ltb v _ a ∙ sym (lt-ltb u _ (h j k a))) (λ (a : get_or next j 0 ≤ v). le-ltb v _ a ∙ sym (le-ltb u _ (omega arith))) (cases_lt v (get_or next j 0)))

-- V comes to where the first runs dry
pub holds_less : (xs ys : List Dry) (v : ℕ) (ws next : List ℕ) → Tops ws next → Holds xs v next → Ordered xs → 0 < length xs → Lost xs (get_or xs 0 blank) ys → Holds ys (get_or xs 0 blank).end next
holds_less xs ys v ws next tops holds ordered l lost f =
    let e = get_or xs 0 blank in
    let u = e.end in
    let s = stands xs v next holds 0 l in
    let j = e.session in
    let n : get_or next j 0 ≡ u = s.1 in
    let z : 0 + j ≡ j = omega arith in
    let same : record { end = get_or next j 0; session = 0 + j } ≡ e = λ k. record { end = n k; session = z k } in
    let h = over_less f v u 0 j next s.0 (omega (arith, s.2, n)) (omega (arith, n))
    (λ m k d.
    ⊎_elim
    (λ (a : v < get_or next m 0).
    let up = leads xs v next holds ordered l m k a in
    let apart : get_or next m 0 ≡ u → ⊥
    = λ q. d (sym (tops m k (omega arith)) ∙ ap (λ x. owner ws (x - 1)) (q ∙ sym n) ∙ tops j s.0 (omega (arith, s.2, n))) in
    lt-ltb v _ a ∙ sym (lt-ltb u _ (omega (arith, up, apart))))
    (λ (a : get_or next m 0 ≤ v). le-ltb v _ a ∙ sym (le-ltb u _ (omega (arith, s.2))))
    (cases_lt v (get_or next m 0))) in
    omega (arith, lost f, holds f, h, ap f same)

-- a busy session gets more slots
pub holds_renewed : (xs ys : List Dry) (v : ℕ) (next : List ℕ) (k n : ℕ) → Holds xs v next → k < length xs → v < n
    → Traded xs (get_or xs k blank) (record { end = n; session = (get_or xs k blank).session }) ys → Holds ys v (set next (get_or xs k blank).session n)
holds_renewed xs ys v next k n holds l u traded f =
    let e = get_or xs k blank in
    let j = e.session in
    let s = stands xs v next holds k l in
    let z : 0 + j ≡ j = omega arith in
    let o : get_or next j 0 ≡ e.end = s.1 in
    let same : record { end = get_or next j 0; session = 0 + j } ≡ e = λ k. record { end = o k; session = z k } in
    let new : f (record { end = n; session = 0 + j }) ≡ f (record { end = n; session = j }) = ap (λ x. f (record { end = n; session = x })) z in
    omega (arith, traded f, holds f, over_set f v 0 j n next s.0 u, only_yes (ltb v (get_or next j 0)) (f (record { end = get_or next j 0; session = 0 + j })) (lt-ltb v _ (omega (arith, s.2, o))), ap f same, new)

-- a session becomes busy
pub holds_entered : (xs ys : List Dry) (v : ℕ) (next : List ℕ) (i n : ℕ) → Holds xs v next → i < length next → get_or next i 0 ≤ v → v < n
    → Gained xs (record { end = n; session = i }) ys → Holds ys v (set next i n)
holds_entered xs ys v next i n holds l a u gained f =
    let z : 0 + i ≡ i = omega arith in
    let new : f (record { end = n; session = 0 + i }) ≡ f (record { end = n; session = i }) = ap (λ x. f (record { end = n; session = x })) z in
    omega (arith, gained f, holds f, over_set f v 0 i n next l u, only_no (ltb v (get_or next i 0)) (f (record { end = get_or next i 0; session = 0 + i })) (le-ltb v _ a), new)

-- there is room
over_most : (v i : ℕ) (ns : List ℕ) → over_busy (λ _. 1) v i ns ≤ length ns
over_most v i [] = omega arith
over_most v i (n ∷ ns) = let ih = over_most v (suc i) ns in ⊎_elim (λ (a : v < n). omega (arith, only_yes (ltb v n) 1 (lt-ltb v n a))) (λ (a : n ≤ v). omega (arith, only_no (ltb v n) 1 (le-ltb v n a))) (cases_lt v n)

over_fewer : (v i j : ℕ) (ns : List ℕ) → j < length ns → get_or ns j 0 ≤ v → over_busy (λ _. 1) v i ns < length ns
over_fewer v i j [] l a = absurd (omega arith)
over_fewer v i zero (n ∷ ns) l a = omega (arith, only_no (ltb v n) 1 (le-ltb v n a), over_most v (suc i) ns)
over_fewer v i (suc j) (n ∷ ns) l a =
    let ih = over_fewer v (suc i) j ns (omega arith) a in
    ⊎_elim (λ (a : v < n). omega (arith, only_yes (ltb v n) 1 (lt-ltb v n a))) (λ (a : n ≤ v). omega (arith, only_no (ltb v n) 1 (le-ltb v n a))) (cases_lt v n)

pub fewer : (xs : List Dry) (v : ℕ) (next : List ℕ) (i : ℕ) → Holds xs v next → i < length next → get_or next i 0 ≤ v → length xs < length next
fewer xs v next i holds l a = omega (arith, total_ones xs, holds (λ _. 1), over_fewer v 0 i next l a)

-- the heap has as many elements as sessions are busy
pub busy_count : (xs : List Dry) (v : ℕ) (next : List ℕ) → Holds xs v next → length xs ≡ total (λ n. only (ltb v n) 1) next
busy_count xs v next holds = sym (total_ones xs) ∙ holds (λ _. 1) ∙ over_ones 0 next
  where
    over_ones : (i : ℕ) (ns : List ℕ) → over_busy (λ _. 1) v i ns ≡ total (λ n. only (ltb v n) 1) ns
    over_ones i [] = refl
    over_ones i (n ∷ ns) = ap (λ x. only (ltb v n) 1 + x) (over_ones (suc i) ns)

-- the first in the heap is the session that runs dry first
pub firstly : (h : Held) (xs : List Dry) (v : ℕ) → Holds xs v (next_of h) → Ordered xs → 0 < length xs → Ahead (weights_of h) (next_of h) h.layout.slots v (get_or xs 0 blank).session
firstly h xs v holds ordered l =
    let next = next_of h in
    let s = stands xs v next holds 0 l in
    record {
      whole = h.layout.whole;
      some = h.layout.some;
      small = h.small;
      few = h.layout.few;
      same = h.same;
      tops = h.tops;
      near = near (weights_of h) next h.layout.slots h.cursor h.ticks h.owed (sound h) (get_or xs 0 blank).session;
      known = s.0;
      busy = omega (arith, s.1, s.2);
      first = λ j k u. omega (arith, s.1, leads xs v next holds ordered l j k u);
    }

-- and its end is the session's next
pub first_end : (xs : List Dry) (v : ℕ) (next : List ℕ) → Holds xs v next → 0 < length xs → (get_or xs 0 blank).end ≡ get_or next (get_or xs 0 blank).session 0
first_end xs v next holds l = sym (stands xs v next holds 0 l).1

-- at first none is busy
over_none : (f : Dry → ℕ) (i k : ℕ) → over_busy f 0 i (replicate k 0) ≡ 0
over_none f i zero = refl
over_none f i (suc k) = omega (arith, only_no (ltb 0 0) (f (record { end = 0; session = i })) (le-ltb 0 0 (omega arith)), over_none f (suc i) k)

pub holds_none : (xs : List Dry) (v : ℕ) (next : List ℕ) (k : ℕ) → xs ≡ [] → v ≡ 0 → next ≡ replicate k 0 → Holds xs v next
holds_none xs v next k e z n f =
    ap (total f) e ∙ sym (over_none f 0 k) ∙ ap (λ u. over_busy f u 0 (replicate k 0)) (sym z) ∙ ap (over_busy f v 0) (sym n)

pub ordered_none : (xs : List Dry) → xs ≡ [] → Ordered xs
ordered_none xs e k a b = absurd (omega (arith, ap length e))

pub holds_renewed_at : (xs ys : List Dry) (v : ℕ) (next : List ℕ) (k n i : ℕ) → (get_or xs k blank).session ≡ i → Holds xs v next → k < length xs → v < n
    → Traded xs (get_or xs k blank) (record { end = n; session = i }) ys → Holds ys v (set next i n)
holds_renewed_at xs ys v next k n i e holds l u traded =
    subst (λ j. Holds ys v (set next j n)) e (holds_renewed xs ys v next k n holds l u (subst (λ j. Traded xs (get_or xs k blank) (record { end = n; session = j }) ys) (sym e) traded))

pub later_end : (xs : List Dry) (v : ℕ) (next : List ℕ) (k i : ℕ) → (get_or xs k blank).session ≡ i → Holds xs v next → k < length xs → (get_or xs k blank).end ≡ get_or next i 0
later_end xs v next k i e holds l = sym (stands xs v next holds k l).1 ∙ ap (λ j. get_or next j 0) e

-- whether some session's next is v
hit_none : (v : ℕ) (ns : List ℕ) → ((j : ℕ) → j < length ns → get_or ns j 0 ≡ v → ⊥) → total (λ n. only (eqb n v) 1) ns ≡ 0
hit_none v [] h = refl
hit_none v (n ∷ ns) h = omega (arith, only_no (eqb n v) 1 (ne_eqb n v (h 0 (omega arith))), hit_none v ns (λ j l. h (suc j) (omega arith)))

hit_some : (v : ℕ) (ns : List ℕ) (j : ℕ) → j < length ns → get_or ns j 0 ≡ v → 1 ≤ total (λ n. only (eqb n v) 1) ns
hit_some v [] j l e = absurd (omega arith)
hit_some v (n ∷ ns) zero l e = omega (arith, only_yes (eqb n v) 1 (eq-eqb n v e))
hit_some v (n ∷ ns) (suc j) l e = omega (arith, hit_some v ns j (omega arith) e)

pub missed_all : (v : ℕ) (ns : List ℕ) → ((j : ℕ) → j < length ns → get_or ns j 0 ≡ v → ⊥) → missed v ns ≡ 1
missed_all v ns h = let t = total (λ n. only (eqb n v) 1) ns in only_yes (eqb t 0) 1 (eq-eqb t 0 (hit_none v ns h))

pub missed_none : (v : ℕ) (ns : List ℕ) (j : ℕ) → j < length ns → get_or ns j 0 ≡ v → missed v ns ≡ 0
missed_none v ns j l e = let t = total (λ n. only (eqb n v) 1) ns in let s = hit_some v ns j l e in only_no (eqb t 0) 1 (ne_eqb t 0 (λ z. omega arith))

pub halfway_moved : (c v : ℕ) (ns : List ℕ) → c < v → halfway c v ns ≡ missed v ns
halfway_moved c v ns l = only_yes (ltb c v) (missed v ns) (lt-ltb c v l)

pub halfway_still : (c : ℕ) (ns : List ℕ) → halfway c c ns ≡ 0
halfway_still c ns = only_no (ltb c c) (missed c ns) (le-ltb c c (omega arith))
