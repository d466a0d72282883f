-- What ticks do to V. Assumes nothing.
use Rattle.std.specs.Prelude.{◌≡◌, ℕ, zero, suc, ◌+◌, ◌-◌, ◌<◌, ◌≤◌, Bool, true, false, List, [], ◌∷◌, length, slice_index, slice_index_or, refl}
use Rattle.std.proofs.Common.{sym, ap, ◌∙◌, ⊎_elim, arith}
use Rattle.std.proofs.lemmas.Bool.{lt-ltb, ltb-true, le-ltb, cases_lt, cond-true, cond-false, both_ways}
use Rattle.tick_machine.specs.Lists.{count}
use Rattle.tick_machine.specs.Slots.{owner, lowest}
use Rattle.tick_machine.specs.Owed.{greatest}
use Rattle.tick_machine.proofs.Slots.{Found, lowest_found}
use Rattle.slot_clock.specs.Walk.{due, tick_cursor, ticks_cursor, Tops}
use Rattle.slot_clock.specs.Counts.{count_rises, count_pass, count_one, found_pass, found_from, found_least, found_made, found_same, found_count}

pub greatest_above : (ns : List ℕ) (i : ℕ) → slice_index ns i ≤ greatest ns
greatest_above [] i = omega arith
greatest_above (n ∷ ns) zero = omega arith
greatest_above (n ∷ ns) (suc i) = omega (arith, greatest_above ns i)

greatest_there : (ns : List ℕ) → 0 < greatest ns → (i : ℕ) × (i < length ns) × (slice_index ns i ≡ greatest ns)
greatest_there [] h = absurd (omega arith)
greatest_there (n ∷ ns) h =
    ⊎_elim (λ (l : n < greatest ns). let ih = greatest_there ns (omega arith) in (suc ih.0, omega (arith, ih.1), omega (arith, ih.2)))
    (λ (l : greatest ns ≤ n). (0, omega arith, omega arith)) (cases_lt n (greatest ns))

pub greatest_most : (ns : List ℕ) (v : ℕ) → ((j : ℕ) → j < length ns → slice_index ns j ≤ v) → greatest ns ≤ v
greatest_most [] v h = omega arith
greatest_most (n ∷ ns) v h = omega (arith, h 0 (omega arith), greatest_most ns v (λ j l. h (suc j) (omega arith)))

module _ (ws next : List ℕ) where
  due_top : (s : ℕ) → due ws next s ≡ true → s < greatest next
  due_top s e = omega (arith, ltb-true s (slice_index next (owner ws s)) e, greatest_above next (owner ws s))

  pub finds : (v s : ℕ) → v ≤ s → due ws next s ≡ true → Found (due ws next) v (lowest (due ws next) (greatest next - v) v)
  finds v s l e = lowest_found (due ws next) (greatest next - v) v s l (omega (arith, due_top s e)) e

  -- the lowest owed slot is served
  pub tick_found : (v q : ℕ) → Found (due ws next) v q → tick_cursor ws next v ≡ suc q
  tick_found v q f =
      let r = lowest (due ws next) (greatest next - v) v in
      let g = finds v q (found_from (due ws next) v q f) (found_pass (due ws next) v q f) in
      cond-true (due ws next r) (suc r) v (found_pass (due ws next) v r g) ∙ ap suc (found_same (due ws next) v r q g f)

  tick_here : (v : ℕ) → due ws next v ≡ true → tick_cursor ws next v ≡ suc v
  tick_here v e = tick_found v v (found_made (due ws next) v v e (omega arith) (λ s l _. l))

  tick_later : (v s : ℕ) → v ≤ s → due ws next s ≡ true → due ws next v ≡ false → tick_cursor ws next v ≡ tick_cursor ws next (suc v)
  tick_later v s l e n =
      let f : ℕ → Bool = due ws next in
      let r = lowest f (greatest next - v) v in
      let g = finds v s l e in
      let p = found_pass f v r g in
      ⊎_elim (λ (x : v < r).
      tick_found v r g ∙ sym (tick_found (suc v) r (found_made f (suc v) r p x (λ u k t. found_least f v r u g (omega arith) t))))
      (λ (x : r ≤ v). absurd (both_ways (f v) n (let y : v ≡ r = omega (arith, found_from f v r g) in ap f y ∙ p)))
      (cases_lt v r)

  tick_none : (v : ℕ) → greatest next ≤ v → tick_cursor ws next v ≡ v
  tick_none v l =
      let q = lowest (due ws next) (greatest next - v) v in
      let e : greatest next - v ≡ 0 = omega arith in
      let same : q ≡ v = ap (λ n. lowest (due ws next) n v) e in
      cond-false (due ws next q) (suc q) v (ap (due ws next) same ∙ le-ltb v (slice_index next (owner ws v)) (omega (arith, greatest_above next (owner ws v))))

  -- past all nexts V stands still
  pub still : (k v : ℕ) → greatest next ≤ v → ticks_cursor ws next k v ≡ v
  still zero v l = refl
  still (suc k) v l = ap (ticks_cursor ws next k) (tick_none v l) ∙ still k v l

  -- a slot is owed as long as V has not passed all nexts
  pub due_there : Tops ws next → (v : ℕ) → v < greatest next → (s : ℕ) × (v ≤ s) × (due ws next s ≡ true)
  due_there t v l =
      let g = greatest_there next (omega arith) in
      let i = g.0 in
      let n = slice_index_or next i 0 in
      let o : owner ws (n - 1) ≡ i = t i g.1 (omega (arith, g.2)) in
      (n - 1, omega (arith, g.2), lt-ltb (n - 1) (slice_index next (owner ws (n - 1))) (omega (arith, ap (λ x. slice_index next x) o, g.2)))

  -- k + 1 ticks bring V to one past the owed slot that has k owed ones before it
  pub reached : (k v s : ℕ) → v ≤ s → due ws next s ≡ true → count (due ws next) s ≡ count (due ws next) v + k → ticks_cursor ws next (suc k) v ≡ suc s
  reached zero v s l e c =
      let f : ℕ → Bool = due ws next in
      let q = lowest f (greatest next - v) v in
      let g = finds v s l e in
      let same : q ≡ s = count_one f q s (found_pass f v q g) e (omega (arith, found_count f v q g)) in
      tick_found v q g ∙ ap suc same
  reached (suc k) v s l e c =
      let f : ℕ → Bool = due ws next in
      let q = lowest f (greatest next - v) v in
      let g = finds v s l e in
      let d = found_count f v q g in
      let p = count_pass f q (found_pass f v q g) in
      let below : q < s
      = ⊎_elim (λ x. x) (λ (x : s ≤ q). absurd (omega (arith, count_rises f s q x))) (cases_lt q s) in
      ap (ticks_cursor ws next (suc k)) (tick_found v q g) ∙ reached k (suc q) s below e (omega arith)

  -- ticks add up
  pub ticks_more : (j k v : ℕ) → ticks_cursor ws next (j + k) v ≡ ticks_cursor ws next k (ticks_cursor ws next j v)
  ticks_more zero k v = let e : 0 + k ≡ k = omega arith in ap (λ n. ticks_cursor ws next n v) e
  ticks_more (suc j) k v =
      let e : suc j + k ≡ suc (j + k) = omega arith in
      ap (λ n. ticks_cursor ws next n v) e ∙ ticks_more j k (tick_cursor ws next v)

  -- one slot further: it is owed and a tick serves it, or it is passed over
  pub step_due : (left v : ℕ) → 1 ≤ left → due ws next v ≡ true → ticks_cursor ws next left v ≡ ticks_cursor ws next (left - 1) (v + 1)
  step_due zero v l e = absurd (omega arith)
  step_due (suc k) v l e =
      let a : suc k - 1 ≡ k = omega arith in
      let b : v + 1 ≡ suc v = omega arith in
      rw (a, b, ← tick_here v e) refl

  pub step_skip : Tops ws next → (left v : ℕ) → 1 ≤ left → v < greatest next → due ws next v ≡ false → ticks_cursor ws next left v ≡ ticks_cursor ws next left (v + 1)
  step_skip t zero v l u e = absurd (omega arith)
  step_skip t (suc k) v l u e =
      let b : v + 1 ≡ suc v = omega arith in
      let d = due_there t v u in
      ap (ticks_cursor ws next k) (tick_later v d.0 d.1 d.2 e) ∙ ap (ticks_cursor ws next (suc k)) (sym b)
