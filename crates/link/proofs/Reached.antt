-- What holds of the machine that a history leads to. Assumes nothing.
use Rattle.std.proofs.Common.{◌≡◌, ℕ, zero, suc, ◌+◌, ◌-◌, ◌<◌, ◌≤◌, eqb, leb, List, [], ◌∷◌, length, replicate, Ok, Err, refl, ap, ◌∙◌, subst, arith}
use Rattle.std.proofs.lemmas.Bool.Decides.{nat_tests}
use Rattle.std.proofs.lemmas.Bool.{eq-eqb, cond-true, cond-false, le-leb, lt-leb}
use Rattle.tick_machine.specs.declared.refusal.Refusal.TheVariants.{TickPassed, PastTheEnd}
use Rattle.tick_machine.specs.declared.call.Call.{Call}
use Rattle.tick_machine.specs.declared.call.Call.TheVariants.{MoveTo}
use Rattle.tick_machine.specs.declared.packet.Packet.{Packet}
use Rattle.tick_machine.specs.Lists.{total, only, All, none, more}
use Rattle.tick_machine.specs.Machine.{Config, Machine, ticks}
use Rattle.tick_machine.specs.Life.{last_tick, move, ticked, step, steps, if_granted, after}
use Rattle.tick_machine.specs.Law.{Drafted, Lawful}
use Rattle.tick_machine.specs.Books.{OwedByNext, WellKept, StaysSmall, FiguresAddUp}
use Rattle.tick_machine.proofs.Lists.{all_map}
use Rattle.tick_machine.proofs.Work.{unsent_map}
use Rattle.tick_machine.proofs.Stands.{law, owed_by_next, is_well_kept, all_stays_small, figures_do_add_up, after_calls}
use Rattle.link.specs.Orderly.{Apart, Orderly}

abbrev copies : ℕ → List Packet → ℕ
copies k ws = total (λ (p : Packet). only (eqb p.number k) 1) ws

other_numbers : (p : Packet) (ws : List Packet) → copies p.number ws ≡ 0 → All (λ q. q.number ≡ p.number → ⊥) ws
other_numbers p [] h = none
other_numbers p (q ∷ ws) h = more (λ e. let e' = eq-eqb q.number p.number e in grind (arith, nat_tests)) (other_numbers p ws (grind (arith, nat_tests)))

apart : (ws : List Packet) → ((k : ℕ) → copies k ws ≤ 1) → Apart ws
apart [] h = tt
apart (p ∷ ws) h =
    (other_numbers p ws (let o = h p.number in let e = eq-eqb p.number p.number refl in grind (arith, nat_tests)), apart ws (λ k. omega (arith, h k)))

-- an orderly machine, from what stands in every history
pub orderly_machine : (c : Config) (m : Machine) → OwedByNext c m → WellKept c m → StaysSmall c m → Orderly c m
orderly_machine c m r k s = record {
  rounded = r;
  apart = apart m.sender.waiting (λ x. let o = k.once x in grind (arith, nat_tests));
  sized = all_map k.proper.waits (λ p h. h.some);
  known = unsent_map k.proper (λ p h. h.session);
  slow = s.sent;
}

steps_ticks : (c : Config) (k : ℕ) (m : Machine) → steps c (replicate k ticked) m ≡ ticks c k m
steps_ticks c zero m = refl
steps_ticks c (suc k) m = ap (step c ticked) (steps_ticks c k m)

-- a move that is granted
pub move_granted : (c : Config) (t : ℕ) (m : Machine) → m.clock ≤ t → t ≤ last_tick → move c t m ≡ Ok (length (ticks c (t - m.clock) m).desk.left - length m.desk.left)
move_granted c t m h l = cond-true (leb m.clock t) _ _ (le-leb _ _ h) ∙ cond-true (leb t last_tick) _ _ (le-leb _ _ l)

-- one to a tick before the clock
pub move_passed : (c : Config) (t : ℕ) (m : Machine) → t < m.clock → move c t m ≡ Err TickPassed
move_passed c t m h = cond-false (leb m.clock t) _ _ (lt-leb _ _ h)

-- one past the end
pub move_past : (c : Config) (t : ℕ) (m : Machine) → m.clock ≤ t → last_tick < t → move c t m ≡ Err PastTheEnd
move_past c t m h l = cond-true (leb m.clock t) _ _ (le-leb _ _ h) ∙ cond-false (leb t last_tick) _ _ (lt-leb _ _ l)

module _ (c : Config) (d : Drafted c) (calls : List Call) where
  pub lawful : Lawful c calls
  lawful = law c d calls

  pub reached_small : StaysSmall c (after c calls)
  reached_small = after_calls StaysSmall all_stays_small c d calls

  pub reached_well : WellKept c (after c calls)
  reached_well = after_calls WellKept is_well_kept c d calls

  pub reached_figures : FiguresAddUp c (after c calls)
  reached_figures = after_calls FiguresAddUp figures_do_add_up c d calls

  pub orderly : Orderly c (after c calls)
  orderly = orderly_machine c (after c calls) (after_calls OwedByNext owed_by_next c d calls) reached_well reached_small

  pub after_move : (t : ℕ) → (after c calls).clock ≤ t → t ≤ last_tick → after c (MoveTo t ∷ calls) ≡ ticks c (t - (after c calls).clock) (after c calls)
  after_move t h l =
      let m = after c calls in
      ap (λ r. steps c (if_granted r (replicate (t - m.clock) ticked)) m) (move_granted c t m h l) ∙ steps_ticks c (t - m.clock) m

-- the machine within a move
pub orderly_ticks : (c : Config) (d : Drafted c) (calls : List Call) (k : ℕ) → (after c calls).clock + k ≤ last_tick → Orderly c (ticks c k (after c calls))
orderly_ticks c d calls k h =
    let m = after c calls in
    let t = m.clock + k in
    let e : t - m.clock ≡ k = omega arith in
    subst (Orderly c) (after_move c d calls t (omega arith) h ∙ ap (λ x. ticks c x m) e) (orderly c d (MoveTo t ∷ calls))
