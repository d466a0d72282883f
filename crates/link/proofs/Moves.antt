-- A clock move goes as promised. Assumes nothing.
use Rattle.std.proofs.Common.{◌≡◌, ℕ, ◌+◌, ◌-◌, ◌<◌, ◌≤◌, List, ◌∷◌, length, replicate, Ok, Err, Result, sym, refl, ap, ◌∙◌, subst, arith, deque_len}
use Rattle.waiting_line.specs.declared.line.WaitingLine.{Ghosts as WaitingLine}
use Rattle.slot_clock.specs.declared.clock.SlotClock.{Ghosts as SlotClock}
use Rattle.tick_machine.specs.declared.refusal.Refusal.{Refusal}
use Rattle.tick_machine.specs.declared.refusal.Refusal.TheVariants.{TickPassed, PastTheEnd}
use Rattle.tick_machine.specs.declared.call.Call.{Call}
use Rattle.tick_machine.specs.declared.call.Call.TheVariants.{MoveTo}
use Rattle.tick_machine.specs.declared.call.Answer.TheVariants.{Moved}
use Rattle.tick_machine.specs.Machine.{Config, Machine, ticks}
use Rattle.tick_machine.specs.Life.{last_tick, move, told, ticked, steps, if_granted, after}
use Rattle.link.specs.declared.link.Link.{Link}
use Rattle.link.specs.Shown.{Shown}
use Rattle.link.specs.Promise.{Led, Goes}
use Rattle.link.proofs.Stretches.{ticks_add}
use Rattle.link.proofs.Reached.{lawful, after_move, move_granted, move_passed, move_past}

module _ {W S : Type 0} {line : WaitingLine W} {clock : SlotClock S} {c : Config} where
  -- two stretches are one
  pub joined_shown : (m : Machine) {l : Link W S} (a b d : ℕ) → d ≡ a + b → Shown line clock c (ticks c b (ticks c a m)) l → Shown line clock c (ticks c d m) l
  joined_shown m {l} a b d e h = subst (λ (x : Machine). Shown line clock c x l) (ticks_add c m a b ∙ ap (λ x. ticks c x m) (sym e)) h

  module _ {calls : List Call} {l : Link W S} (h : Led line clock c calls l) (t : ℕ) where
    m : Machine
    m = after c calls

    -- a refused move
    refused_move : (e : Refusal) → move c t m ≡ Err e → Goes line clock c calls l (MoveTo t) (told (Moved t) (Err e)) l
    unfolding m
    refused_move e v = record {
      led = record {
        drafted = h.drafted;
        shown = subst (λ (r : Result ℕ Refusal). Shown line clock c (steps c (if_granted r (replicate (t - m.clock) ticked)) m) l) (sym v) h.shown;
      };
      told = ap (told (Moved t)) (sym v);
      kept = λ _. refl;
      law = lawful c h.drafted (MoveTo t ∷ calls);
    }

    pub passed_goes : t < l.clock → Goes line clock c calls l (MoveTo t) (told (Moved t) (Err TickPassed)) l
    unfolding m
    passed_goes less = refused_move TickPassed (move_passed c t m (omega (arith, h.shown.clock_is)))

    pub past_goes : l.clock ≤ t → last_tick < t → Goes line clock c calls l (MoveTo t) (told (Moved t) (Err PastTheEnd)) l
    unfolding m
    past_goes le less = refused_move PastTheEnd (move_past c t m (omega (arith, h.shown.clock_is)) less)

    pub moved_goes : (l' : Link W S) (n : ℕ) → l.clock ≤ t → t ≤ last_tick → l'.clock ≡ t → n ≡ deque_len l'.left - deque_len l.left
        → Shown line clock c (ticks c (l'.clock - l.clock) (after c calls)) l'
        → Goes line clock c calls l (MoveTo t) (told (Moved t) (Ok n)) l'
    unfolding m
    moved_goes l' n le last e q x =
        let from : m.clock ≤ t = omega (arith, h.shown.clock_is) in
        let span : l'.clock - l.clock ≡ t - m.clock = omega (arith, h.shown.clock_is) in
        let s : Shown line clock c (ticks c (t - m.clock) m) l' = subst (λ (k : ℕ). Shown line clock c (ticks c k m) l') span x in
        let many : n ≡ length (ticks c (t - m.clock) m).desk.left - length m.desk.left
        = let u = l'.left.ok.0 ∙ ap length s.left_is in let v = l.left.ok.0 ∙ ap length h.shown.left_is in omega arith in
        record {
          led = record { drafted = h.drafted; shown = subst (λ (b : Machine). Shown line clock c b l') (sym (after_move c h.drafted calls t from last)) s };
          told = ap (told (Moved t)) (ap Ok many ∙ sym (move_granted c t m from last));
          kept = λ z. let y : ◌≡◌ {A = ℕ} 0 1 = cc in absurd (omega arith);
          law = lawful c h.drafted (MoveTo t ∷ calls);
        }
