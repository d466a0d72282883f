-- A slip in hand is returned, and is then in hand no more. Assumes nothing.
use Rattle.std.proofs.Common.{◌≡◌, ℕ, ◌+◌, ◌<◌, true, eqb, List, [], ◌∷◌, length, get_or, Ok, Result, sym, refl, ap, ◌∙◌, arith}
use lib.ListN.{length-map}
use Rattle.std.proofs.lemmas.Bool.{eq-eqb, or_left, cond-true}
use Rattle.waiting_line.specs.declared.line.WaitingLine.{Ghosts as WaitingLine}
use Rattle.slot_clock.specs.declared.clock.SlotClock.{Ghosts as SlotClock}
use Rattle.tick_machine.specs.declared.refusal.Refusal.{Refusal}
use Rattle.tick_machine.specs.declared.packet.SlipCopy.{SlipCopy}
use Rattle.tick_machine.specs.declared.call.Call.{Call}
use Rattle.tick_machine.specs.declared.call.Call.TheVariants.{Return}
use Rattle.tick_machine.specs.declared.call.Answer.{Answer}
use Rattle.tick_machine.proofs.Lists.{head}
use Rattle.tick_machine.specs.Desk.{among, without}
use Rattle.tick_machine.specs.Machine.{Config, Machine}
use Rattle.tick_machine.specs.Life.{settlement, returned, steps, if_granted, after}
use Rattle.link.specs.declared.link.Link.{Link}
use Rattle.link.specs.declared.slip.Slip.{Slip}
use Rattle.link.proofs.Slips.{is_out}
use Rattle.replay.specs.History.{packets}
use Rattle.replay.specs.Hand.{Held, Answered}

granted_out : (c : Config) (m : Machine) (k : ℕ) (r : Result ℕ Refusal) → r ≡ Ok k → (steps c (if_granted r (returned k ∷ [])) m).desk.out ≡ without k m.desk.out
granted_out c m k r e = ap (λ (x : Result ℕ Refusal). (steps c (if_granted x (returned k ∷ [])) m).desk.out) e

-- what is out after the first packet out was returned
returned_out : (c : Config) (calls : List Call) (link k : ℕ) (ks : List ℕ) → link ≡ c.link → k ∷ ks ≡ (after c calls).desk.out → (after c (Return link k ∷ calls)).desk.out ≡ ks
returned_out c calls link k ks e o =
    let m = after c calls in
    let there : among k m.desk.out ≡ true = ap (among k) (sym o) ∙ or_left _ _ (eq-eqb k k refl) in
    granted_out c m k (settlement c link k m) (is_out c link k m e there) ∙ ap (without k) (sym o) ∙ cond-true (eqb k k) ks (k ∷ without k ks) (eq-eqb k k refl)

module _ {W S : Type 0} {line : WaitingLine W} {clock : SlotClock S} {c : Config} {calls : List Call} {l l' : Link W S} {ss' : List Slip} {said : Answer} where
  -- one slip fewer is in hand
  pub one_fewer : (ss : List Slip) (says : SlipCopy) (d : Slip) → 0 < length ss → says ≡ (get_or ss 0 d).says → Held line clock c calls (record { link = l; slips = ss })
      → Answered line clock c calls (Return says.link says.packet) said (record { link = l'; slips = ss' }) → length ss' + 1 ≡ length ss
  one_fewer [] says d h e held a = absurd (omega arith)
  one_fewer (s ∷ ss) says d h e held a =
      let own : says.link ≡ c.link = ap (λ (x : SlipCopy). x.link) e ∙ head held.own in
      let out : says.packet ∷ packets ss ≡ (after c calls).desk.out = ap (λ (x : SlipCopy). x.packet ∷ packets ss) e ∙ held.out in
      let left : packets ss' ≡ packets ss = a.held.out ∙ returned_out c calls says.link says.packet (packets ss) own out in
      omega (arith, ap length left, length-map ss' (λ (x : Slip). x.says.packet), length-map ss (λ (x : Slip). x.says.packet))
