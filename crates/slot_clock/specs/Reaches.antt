-- How far V, a session's next and a stamp may go. Assumes nothing.
use Rattle.std.specs.Prelude.{◌≡◌, ℕ, zero, suc, ◌+◌, ◌-◌, ◌*◌, ◌<◌, ◌≤◌, Bool, true, false, cond, List, length, nat_eq, slice_index, slice_index_or, refl}
use Rattle.std.proofs.Common.{ap, ⊎_elim, arith}
use Rattle.std.proofs.lemmas.Bool.{lt-ltb, ltb-true, cases_lt, cases_Bool, cond_both, eq-eqb, eqb-true}
use Rattle.tick_machine.specs.Lists.{count, final, All}
use Rattle.tick_machine.specs.Slots.{round_length, owner, lowest, slots, own_slots}
use Rattle.tick_machine.specs.Owed.{greatest}
use Rattle.tick_machine.proofs.Slots.{lowest_found}
use Rattle.tick_machine.proofs.Windows.{owner_there, weight_some, rounds, reach}
use Rattle.slot_clock.specs.Walk.{below, due, tick_cursor, ticks_cursor, Tops}
use Rattle.slot_clock.specs.Counts.{count_rises, count_pass, count_one, count_below, found_pass, found_from, found_least, found_count}
use Rattle.slot_clock.specs.Blocks.{times_least}
use Rattle.slot_clock.specs.Walks.{finds, tick_found}

-- the last of n + 1 slots that are looked for from q on
record Last (test : ℕ → Bool) (k n q s : ℕ) : Type 0 where
  pub pass : test s ≡ true
  pub low : q ≤ s
  pub near : s < q + suc n * k
  pub rank : count test s ≡ count test q + n

last_is : (test : ℕ → Bool) (k : ℕ) (hit : (q : ℕ) → (s : ℕ) × (q ≤ s) × (s < q + k) × (test s ≡ true)) (n q d : ℕ) → Last test k n q (final d (slots test k (suc n) q))
last_is test k hit zero q d =
    let h = hit q in
    let r = lowest test k q in
    let f = lowest_found test k q h.0 h.1 h.2 h.3 in
    record {
      pass = found_pass test q r f;
      low = found_from test q r f;
      near = omega (arith, found_least test q r h.0 f h.1 h.3, h.2);
      rank = omega (arith, found_count test q r f);
    }
last_is test k hit (suc n) q d =
    let h = hit q in
    let r = lowest test k q in
    let f = lowest_found test k q h.0 h.1 h.2 h.3 in
    let ih = last_is test k hit n (suc r) r in
    record {
      pass = ih.pass;
      low = omega (arith, ih.low, found_from test q r f);
      near = omega (arith, ih.near, found_least test q r h.0 f h.1 h.3, h.2);
      rank = omega (arith, ih.rank, count_pass test r (found_pass test q r f), found_count test q r f);
    }

-- what a stamp is: the slot of session i with n - 1 of i's slots between q and it
pub record Stamped (ws : List ℕ) (i n q s : ℕ) : Type 0 where
  pub own : owner ws s ≡ i
  pub low : q ≤ s
  pub near : s < q + n * round_length ws
  pub rank : below ws i s ≡ below ws i q + (n - 1)

module _ (ws : List ℕ) (each : All (λ w. 1 ≤ w) ws) where
  pub stamped : (i n q : ℕ) → i < length ws → 1 ≤ n → Stamped ws i n q (final 0 (own_slots ws i n q))
  stamped i zero q l p = absurd (omega arith)
  stamped i (suc n) q l p =
      let s = final 0 (own_slots ws i (suc n) q) in
      let h = last_is (λ s. nat_eq (owner ws s) i) (round_length ws) (λ q. reach ws i q each l) n q 0 in
      record { own = eqb-true (owner ws s) i h.pass; low = h.low; near = h.near; rank = omega (arith, h.rank) }

  -- a slot of session i with as many of its slots below is the stamp
  pub stamp_one : (i n q s : ℕ) → i < length ws → 1 ≤ n → owner ws s ≡ i → below ws i s ≡ below ws i q + (n - 1) → s ≡ final 0 (own_slots ws i n q)
  stamp_one i n q s l p o r =
      let t = final 0 (own_slots ws i n q) in
      let h = stamped i n q l p in
      count_one (λ q. nat_eq (owner ws q) i) s t (eq-eqb (owner ws s) i o) (eq-eqb (owner ws t) i h.own) (omega (arith, h.rank))

  -- a tick moves V by a round at most
  tick_near : (next : List ℕ) (v : ℕ) → 0 < round_length ws → (v ≤ tick_cursor ws next v) × (tick_cursor ws next v ≤ v + round_length ws)
  tick_near next v some =
      let f : ℕ → Bool = due ws next in
      let q = lowest f (greatest next - v) v in
      ⊎_elim
      (λ (e : f q ≡ true).
      let from : v ≤ q = lowest_from f (greatest next - v) v in
      let g = finds ws next v q from e in
      let j = owner ws q in
      let r = tick_found ws next v q g in
      let mine : ℕ → Bool = λ x. nat_eq (owner ws x) j in
      let l = owner_there ws q some in
      let k = lowest mine (round_length ws) v in
      let n = reach ws j v each l in
      let h = lowest_found mine (round_length ws) v n.0 n.1 n.2 n.3 in
      let low = found_least mine v k q h from (eq-eqb j j refl) in
      let o : owner ws k ≡ j = eqb-true (owner ws k) j (found_pass mine v k h) in
      let d : f k ≡ true = lt-ltb k (slice_index next (owner ws k)) (omega (arith, ap (λ x. slice_index next x) o, ltb-true q (slice_index next j) e, low)) in
      let u = found_least f v q k g (found_from mine v k h) d in
      let w = found_least mine v k n.0 h n.1 n.3 in
      (omega (arith, r), omega (arith, r, n.2)))
      (λ (e : f q ≡ false). let r : tick_cursor ws next v ≡ v = ap (λ b. cond b (suc q) v) e in (omega (arith, r), omega (arith, r)))
      (cases_Bool (f q))
    where
      lowest_from : (test : ℕ → Bool) (k q : ℕ) → q ≤ lowest test k q
      lowest_from test zero q = omega arith
      lowest_from test (suc k) q = cond_both (test q) q (lowest test k (suc q)) (λ r. q ≤ r) (λ _. omega arith) (λ _. omega (arith, lowest_from test k (suc q)))

  pub ticks_near : (next : List ℕ) (k v : ℕ) → 0 < round_length ws → (v ≤ ticks_cursor ws next k v) × (ticks_cursor ws next k v ≤ v + k * round_length ws)
  ticks_near next zero v some = (omega arith, omega arith)
  ticks_near next (suc k) v some =
      let s = tick_near next v some in
      let ih = ticks_near next k (tick_cursor ws next v) some in
      (omega (arith, s.0, ih.0), omega (arith, s.1, ih.1))

  -- a session's next is not far from V
  pub next_near : (next : List ℕ) → Tops ws next → (v i m : ℕ) → i < length next → i < length ws → m ≡ below ws i (slice_index next i) - below ws i v → slice_index next i ≤ v + m * round_length ws
  next_near next tops v i m l k e =
      let n = slice_index_or next i 0 in
      let mine : ℕ → Bool = λ x. nat_eq (owner ws x) i in
      ⊎_elim
      (λ (x : v < n).
      let s = n - 1 in
      let o : mine s ≡ true = eq-eqb (owner ws s) i (tops i l (omega arith)) in
      let up : suc s ≡ n = omega arith in
      let c = count_pass mine s o in
      let c' = ap (count mine) up in
      let b = count_rises mine v s (omega arith) in
      let w = slice_index_or ws i 0 in
      let h : m * 1 ≤ m * w = times_least m w (weight_some ws i each k) in
      let y = count_below mine s (v + m * round_length ws) (omega (arith, rounds ws i k v m)) in
      omega arith)
      (λ (x : n ≤ v). omega arith)
      (cases_lt v n)
