-- The weights, one by one, and what a clock starts with. Assumes nothing.
use Rattle.std.proofs.Common.{◌≡◌, ℕ, zero, suc, ◌+◌, ◌-◌, ◌<◌, ◌≤◌, true, false, cond, ◌&&◌, ltb, leb, List, [], ◌∷◌, length, get_or, drop, replicate, Some, None, Ok, Option, sym, refl, ap, ◌∙◌, subst, ⊎_elim, add-one, arith, drop-cons}
use Rattle.std.proofs.lemmas.List.{drop_all}
use Rattle.std.proofs.lemmas.Bool.{cond-true, cond-false, lt-ltb, le-ltb, le-leb, lt-leb, and_from, and_left, and_right, and_parts, ltb-true, leb-true, cases_Bool}
use Rattle.tick_machine.specs.Slots.{round_length}
use Rattle.tick_machine.specs.Round.{Round, fresh_round}
use Rattle.tick_machine.specs.Owed.{owed_slots, shown_round}
use Rattle.tick_machine.proofs.OwedSlots.{shown_fresh}
use Rattle.slot_clock.specs.State.{state_of}
use Rattle.slot_clock.specs.Calls.{no_zero, made_answer}
use Rattle.slot_clock.specs.Walk.{Tops}
use Rattle.slot_clock.specs.Blocks.{round_more}

pub no_zero_more : (ws : List ℕ) (i : ℕ) → i < length ws → no_zero (drop i ws) ≡ (ltb 0 (get_or ws i 0) && no_zero (drop (i + 1) ws))
no_zero_more ws i l = rw add-one (ap no_zero (drop-cons ws i 0 l))

-- the round's length, or none
abbrev pub Summed : List ℕ → Option ℕ
Summed ws = cond (no_zero ws && leb (round_length ws) 4096) (Some (round_length ws)) None

pub zero_refuses : (ws : List ℕ) (i : ℕ) → i < length ws → no_zero (drop i ws) ≡ no_zero ws → get_or ws i 0 ≡ 0 → None ≡ Summed ws
zero_refuses ws i l e z =
    let f : no_zero ws ≡ false = sym e ∙ no_zero_more ws i l ∙ and_left (ltb 0 (get_or ws i 0)) _ (le-ltb 0 (get_or ws i 0) (omega arith)) in
    sym (cond-false (no_zero ws && leb (round_length ws) 4096) (Some (round_length ws)) None (and_left (no_zero ws) _ f))

pub many_refuse : (ws : List ℕ) (i sum : ℕ) → i < length ws → sum + round_length (drop i ws) ≡ round_length ws → 4096 - sum < get_or ws i 0 → None ≡ Summed ws
many_refuse ws i sum l e z =
    let f : leb (round_length ws) 4096 ≡ false = lt-leb (round_length ws) 4096 (omega (arith, round_more ws i l)) in
    sym (cond-false (no_zero ws && leb (round_length ws) 4096) (Some (round_length ws)) None (and_right (no_zero ws) _ f))

pub none_refuses : (ws : List ℕ) (i sum : ℕ) → length ws ≤ i → sum + round_length (drop i ws) ≡ round_length ws → no_zero (drop i ws) ≡ no_zero ws → sum ≤ 4096 → Some sum ≡ Summed ws
none_refuses ws i sum l e z m =
    let s : sum ≡ round_length ws = omega (arith, ap round_length (drop_all i ws l)) in
    let f : (no_zero ws && leb (round_length ws) 4096) ≡ true
    = and_from (no_zero ws) (leb (round_length ws) 4096) (sym z ∙ ap no_zero (drop_all i ws l)) (le-leb (round_length ws) 4096 (omega arith)) in
    ap (λ x. Some x) s ∙ sym (cond-true (no_zero ws && leb (round_length ws) 4096) (Some (round_length ws)) None f)

-- what the sum says
pub record Fit (ws : List ℕ) (r : ℕ) : Type 0 where
  pub each : no_zero ws ≡ true
  pub whole : r ≡ round_length ws
  pub small : r ≤ 4096

pub fit : (ws : List ℕ) (r : ℕ) → Some r ≡ Summed ws → Fit ws r
fit ws r e =
    ⊎_elim
    (λ (t : (no_zero ws && leb (round_length ws) 4096) ≡ true).
    let p = and_parts (no_zero ws) (leb (round_length ws) 4096) t in
    let s : Some r ≡ Some (round_length ws) = e ∙ cond-true (no_zero ws && leb (round_length ws) 4096) (Some (round_length ws)) None t in
    let w : r ≡ round_length ws = cc in
    record { each = p.0; whole = w; small = omega (arith, leb-true (round_length ws) 4096 p.1) })
    (λ (t : (no_zero ws && leb (round_length ws) 4096) ≡ false).
    let s : Some r ≡ None = e ∙ cond-false (no_zero ws && leb (round_length ws) 4096) (Some (round_length ws)) None t in
    let z : ◌≡◌ {A = ℕ} 0 1 = cc in
    absurd (omega arith))
    (cases_Bool (no_zero ws && leb (round_length ws) 4096))

heavy_round : (ws : List ℕ) → no_zero ws ≡ true → 0 < length ws → 0 < round_length ws
heavy_round [] e l = absurd (omega arith)
heavy_round (w ∷ ws) e l = omega (arith, ltb-true 0 w (and_parts (ltb 0 w) (no_zero ws) e).0)

no_slots : (k i : ℕ) → ◌≡◌ {A = ℕ} (get_or (replicate k 0) i 0) 0
no_slots zero i = refl
no_slots (suc k) zero = refl
no_slots (suc k) (suc i) = no_slots k i

-- nothing was got yet, so nothing is owed
module _ (ws next : List ℕ) (none : next ≡ replicate (length ws) 0) where
  pub starts_tops : Tops ws next
  starts_tops = subst (Tops ws) (sym none) (λ i k z. absurd (omega (arith, no_slots (length ws) i)))

  pub starts_sum : 0 ≡ length (owed_slots ws 0 next)
  starts_sum = ap (λ (x : Round). length x.owed) (shown_fresh ws) ∙ ap (λ y. length (owed_slots ws 0 y)) (sym none)

  some_sessions : (ws : List ℕ) → 0 < round_length ws → 0 < length ws
  some_sessions [] l = l
  some_sessions (w ∷ ws) l = omega arith

  -- what making answers
  pub made : (r : ℕ) → length ws ≤ 64 → r ≡ round_length ws → 0 < r → r ≤ 4096 → no_zero ws ≡ true → Ok (state_of ws 0 (shown_round ws 0 next)) ≡ made_answer ws
  made r few whole some small each =
      let a : (ltb 0 (length ws) && leb (length ws) 64) ≡ true
      = and_from (ltb 0 (length ws)) (leb (length ws) 64) (lt-ltb 0 (length ws) (some_sessions ws (omega arith))) (le-leb (length ws) 64 few) in
      let b : (no_zero ws && leb (round_length ws) 4096) ≡ true = and_from (no_zero ws) (leb (round_length ws) 4096) each (le-leb (round_length ws) 4096 (omega arith)) in
      let state : state_of ws 0 (shown_round ws 0 next) ≡ state_of ws 0 (fresh_round ws)
      = ap (λ x. state_of ws 0 (shown_round ws 0 x)) none ∙ ap (state_of ws 0) (sym (shown_fresh ws)) in
      ap (λ x. Ok x) state
      ∙ sym (cond-true (ltb 0 (length ws) && leb (length ws) 64) _ _ a ∙ cond-true (no_zero ws && leb (round_length ws) 4096) _ _ b)

-- all that a clock holds to, as it starts
pub record Starts (ws next : List ℕ) (r : ℕ) : Type 0 where
  pub whole : r ≡ round_length ws
  pub some : 0 < r
  pub small : r ≤ 4096
  pub each : no_zero ws ≡ true
  pub tops : Tops ws next
  pub sum : 0 ≡ length (owed_slots ws 0 next)

pub starts : (ws₀ ws next : List ℕ) (r : ℕ) → ws ≡ ws₀ → next ≡ replicate (length ws₀) 0 → 0 < length ws₀ → Some r ≡ Summed ws₀ → Starts ws next r
starts ws₀ ws next r e f l h =
    let p = fit ws₀ r h in
    let base : Starts ws₀ next r
    = record {
      whole = p.whole;
      some = omega (arith, p.whole, heavy_round ws₀ p.each l);
      small = p.small;
      each = p.each;
      tops = starts_tops ws₀ next f;
      sum = starts_sum ws₀ next f;
    } in
    subst (λ x. Starts x next r) (sym e) base
