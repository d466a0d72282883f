-- A turn at an open link. Assumes nothing.
use Rattle.std.proofs.Common.{◌≡◌, ℕ, ◌-◌, cond, eqb, List, ◌∷◌, Some, None, Ok, Err, Option, refl, sym, ap, ◌∙◌, subst}
use Rattle.tick_machine.specs.declared.refusal.Refusal.TheVariants.{OtherLink, NotOut}
use Rattle.tick_machine.specs.declared.packet.SlipCopy.{SlipCopy}
use Rattle.tick_machine.specs.declared.call.Call.{Call}
use Rattle.tick_machine.specs.declared.call.Call.TheVariants as call
use Rattle.tick_machine.specs.declared.call.Answer.{Answer}
use Rattle.tick_machine.specs.Desk.{among}
use Rattle.tick_machine.specs.Machine.{Config, Machine}
use Rattle.tick_machine.specs.Life.{after, move, respond}
use Rattle.waiting_line.specs.declared.line.WaitingLine.{Ghosts as WaitingLine}
use Rattle.slot_clock.specs.declared.clock.SlotClock.{Ghosts as SlotClock}
use Rattle.link.specs.declared.slip.Slip.{Slip}
use Rattle.link.specs.Promise.{Keeps, collected_as}
use Rattle.history_text.specs.declared.commands.Command.{Command}
use Rattle.history_text.specs.declared.commands.Command.TheVariants as command
use Rattle.history_reply.specs.declared.replies.Reply.{Reply}
use Rattle.history_reply.specs.declared.replies.Reply.TheVariants as reply
use Rattle.history_reply.specs.Stages.{Stage, running, calling, obey, slip_in}
use Rattle.history.specs.declared.clerk.OpenLink.{OpenLink}
use Rattle.history.specs.Standing.{copied, Out, AtLink, Went}
use Rattle.link.proofs.Outs.{settled_last, move_out}

-- a slip stays out where the same packets are out
out_kept : (c : Config) (m m' : Machine) (o : Option SlipCopy) → m'.desk.out ≡ m.desk.out → Out c m o → Out c m' o
out_kept c m m' None same h = tt
out_kept c m m' (Some s) same h = ap (λ (xs : List ℕ). cond (eqb s.link c.link) (cond (among s.packet xs) (Ok s.packet) (Err NotOut)) (Err OtherLink)) same ∙ h

-- a slip just handed out is out
out_taken : (c : Config) (m : Machine) (o : Option SlipCopy) → o ≡ slip_in (respond c m call.Collect).1 → Out c (respond c m call.Collect).0 o
out_taken c m None e = tt
out_taken c m (Some s) e = settled_last c m.desk.left m.desk.out s (respond c m call.Collect).0 e refl

module _ {W S : Type 0} (line : WaitingLine W) (clock : SlotClock S) where
  -- a call after those that led here
  goes_on : (s : Stage) (o o' : OpenLink W S) (x : Call) (a b : Answer) (H : Option SlipCopy) (k : AtLink line clock s o) → b ≡ a → Keeps line clock o.link x a o'.link → H ≡ copied o'.hand → Out k.config (after k.config (x ∷ k.calls)) (copied o'.hand) → Went (AtLink line clock) (calling k.config (after k.config k.calls) H x) o' (reply.Answer b)
  goes_on s o o' x a b H k e keeps h out =
      let goes = keeps k.config k.calls k.led in
      record {
        replied = ap (λ (y : Answer). reply.Answer y) (e ∙ goes.told);
        here = record {
          config = k.config;
          calls = x ∷ k.calls;
          is = ap (running k.config (after k.config (x ∷ k.calls))) h;
          led = goes.led;
          out = out;
        };
      }

  -- the same of the stage at hand
  at_stage : (n : ℕ) (x : Command) (s t : Stage) (next : OpenLink W S) (r : Reply) → s ≡ t → Went (AtLink line clock) (obey n t x) next r → Went (AtLink line clock) (obey n s x) next r
  at_stage n x s t next r e w = subst (λ (u : Stage). Went (AtLink line clock) (obey n u x) next r) (sym e) w

  -- a slip is taken, or none
  pub taken : (n : ℕ) (s : Stage) (o o' : OpenLink W S) (b : Answer) → o.hand ≡ None → b ≡ collected_as o'.hand → Keeps line clock o.link call.Collect (collected_as o'.hand) o'.link → AtLink line clock s o → Went (AtLink line clock) (obey n s command.Take) o' (reply.Answer b)
  taken n s o o' b none e keeps k =
      let goes = keeps k.config k.calls k.led in
      let h : slip_in (respond k.config (after k.config k.calls) call.Collect).1 ≡ copied o'.hand = sym (ap slip_in goes.told) in
      at_stage n command.Take s (running k.config (after k.config k.calls) None) _ _ (k.is ∙ ap (λ (u : Option Slip). running k.config (after k.config k.calls) (copied u)) none) (goes_on s o o' call.Collect (collected_as o'.hand) b _ k e keeps h (out_taken k.config (after k.config k.calls) (copied o'.hand) (sym h)))

  -- the clock is moved
  pub moved : (n : ℕ) (s : Stage) (o o' : OpenLink W S) (a b : Answer) (x : Command) (t : ℕ) → x ≡ command.MoveTo t → o'.hand ≡ o.hand → b ≡ a → Keeps line clock o.link (call.MoveTo t) a o'.link → AtLink line clock s o → Went (AtLink line clock) (obey n s x) o' (reply.Answer b)
  moved n s o o' a b x t is same e keeps k =
      let c = k.config in
      let m = after k.config k.calls in
      let h = ap copied (sym same) in
      let out = out_kept c m (respond c m (call.MoveTo t)).0 (copied o.hand) (move_out c m (move c t m) (t - m.clock)) k.out in
      let w = at_stage n (command.MoveTo t) s _ _ _ k.is (goes_on s o o' (call.MoveTo t) a b _ k e keeps h (subst (Out c (respond c m (call.MoveTo t)).0) h out)) in
      subst (λ (y : Command). Went (AtLink line clock) (obey n s y) o' (reply.Answer b)) (sym is) w
