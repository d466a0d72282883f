-- The slots that a packet gets: rising, owned by its session, none below the place that they are looked for from, none left out. Assumes nothing.
use Rattle.std.proofs.Common.{◌≡◌, ℕ, zero, suc, ◌+◌, ◌<◌, ◌≤◌, Bool, true, eqb, List, length, refl, ap, ◌∙◌, ⊎_elim, arith}
use Rattle.std.proofs.lemmas.Bool.Decides.{nat_tests}
use Rattle.std.proofs.lemmas.Bool.{eq-eqb, eqb-true, cond_both, cases_lt, cases_eq, both_ways}
use Rattle.tick_machine.specs.Lists.{total, only, All, none, more, Rising, final}
use Rattle.tick_machine.specs.Slots.{round_length, owner, lowest, slots, own_slots}
use Rattle.tick_machine.proofs.Lists.{all_map, final_greatest, final_all, final_there}
use Rattle.tick_machine.proofs.Windows.{reach}

module _ (test : ℕ → Bool) where
  -- the slot found passes, and none before it does
  unfoldable pub Found : ℕ → ℕ → Type 0
  Found q r = (test r ≡ true) × (q ≤ r) × ((s : ℕ) → q ≤ s → test s ≡ true → r ≤ s)

  pub lowest_found : (k q s : ℕ) → q ≤ s → s < q + k → test s ≡ true → Found q (lowest test k q)
  unfolding Found
  lowest_found zero q s l h t = absurd (omega arith)
  lowest_found (suc k) q s l h t =
      cond_both (test q) q (lowest test k (suc q)) (λ r. (test r ≡ true) × (q ≤ r) × ((s : ℕ) → q ≤ s → test s ≡ true → r ≤ s))
      (λ e. (e, omega arith, λ s l _. l))
      (λ e. let away : (u : ℕ) → q ≤ u → test u ≡ true → suc q ≤ u
      = λ u v w. ⊎_elim (λ (g : q < u). g) (λ (g : u ≤ q). absurd (both_ways (test u) (let x : u ≡ q = omega arith in ap test x ∙ e) w)) (cases_lt q u) in
      let ih = lowest_found k (suc q) s (away s l t) (omega arith) t in
      (ih.0, omega (arith, ih.1), λ u v w. ih.2 u (away u v w) w))

  module _ (k : ℕ) (hit : (q : ℕ) → (s : ℕ) × (q ≤ s) × (s < q + k) × (test s ≡ true)) where
    found : (q : ℕ) → Found q (lowest test k q)
    found q = lowest_found k q (hit q).0 (hit q).1 (hit q).2 (hit q).3

    slots_length : (n q : ℕ) → length (slots test k n q) ≡ n
    slots_length zero q = refl
    slots_length (suc n) q = ap suc (slots_length n (suc (lowest test k q)))

    slots_mine : (n q : ℕ) → All (λ s. (q ≤ s) × (test s ≡ true)) (slots test k n q)
    unfolding Found
    slots_mine zero q = none
    slots_mine (suc n) q =
        let f = found q in
        let r = lowest test k q in
        more (f.1, f.0) (all_map (slots_mine n (suc r)) (λ s h. (omega arith, h.1)))

    slots_rising : (n q : ℕ) → Rising (λ s. s) (slots test k n q)
    slots_rising zero q = tt
    slots_rising (suc n) q =
        let r = lowest test k q in
        (all_map (slots_mine n (suc r)) (λ s h. h.0), slots_rising n (suc r))

    -- no slot that passes is left out
    slots_full : (n q s : ℕ) → q ≤ s → test s ≡ true → s ≤ final (lowest test k q) (slots test k n (suc (lowest test k q)))
        → 1 ≤ total (λ o. only (eqb o s) 1) (slots test k (suc n) q)
    unfolding Found
    slots_full zero q s l t h = let e : lowest test k q ≡ s = omega (arith, (found q).2 s l t) in grind (arith, nat_tests)
    slots_full (suc n) q s l t h =
        let r = lowest test k q in
        ⊎_elim
        (λ (e : r ≡ s). grind (arith, nat_tests))
        (λ (d : r ≡ s → ⊥). let above : suc r ≤ s = omega (arith, (found q).2 s l t, d) in omega (arith, slots_full n (suc r) s above t h))
        (cases_eq r s)

-- what the slots of a packet of n bytes of session i are, if they are looked for from `low` on
pub record Fresh (ws : List ℕ) (i n low : ℕ) (got : List ℕ) : Type 0 where
  pub count : length got ≡ n
  pub rising : Rising (λ s. s) got
  pub mine : All (λ s. (low ≤ s) × (owner ws s ≡ i)) got
  pub top : All (λ s. s ≤ final 0 got) got
  pub stamp : (low ≤ final 0 got) × (owner ws (final 0 got) ≡ i)
  pub there : 1 ≤ total (λ q. only (eqb q (final 0 got)) 1) got
  pub full : (s : ℕ) → low ≤ s → owner ws s ≡ i → s ≤ final 0 got → 1 ≤ total (λ q. only (eqb q s) 1) got

pub fresh : (ws : List ℕ) (i n low : ℕ) → All (λ w. 1 ≤ w) ws → i < length ws → 1 ≤ n → Fresh ws i n low (own_slots ws i n low)
fresh ws i zero low h l e = absurd (omega arith)
fresh ws i (suc n) low h l e =
    let test : ℕ → Bool = λ s. eqb (owner ws s) i in
    let k = round_length ws in
    let hit : (q : ℕ) → (s : ℕ) × (q ≤ s) × (s < q + k) × (test s ≡ true)
    = λ q. reach ws i q h l in
    let got = slots test k (suc n) low in
    let mine : All (λ s. (low ≤ s) × (owner ws s ≡ i)) got
    = all_map (slots_mine test k hit (suc n) low) (λ s g. (g.0, eqb-true (owner ws s) i g.1)) in
    let up = slots_rising test k hit (suc n) low in
    let q = lowest test k low in
    let qs = slots test k n (suc q) in
    record {
      count = slots_length test k hit (suc n) low;
      rising = up;
      mine = mine;
      top = final_greatest q qs up;
      stamp = final_all q qs mine;
      there = final_there q qs;
      full = λ s l o u. slots_full test k hit n low s l (eq-eqb (owner ws s) i o) u;
    }
