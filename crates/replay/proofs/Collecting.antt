-- A collection brings the slip into hand, and there is room for it. Assumes nothing.
use Rattle.std.proofs.Common.{◌≡◌, ℕ, ◌+◌, ◌≤◌, List, [], ◌∷◌, ◌++◌, length, Some, None, sym, refl, ap, ◌∙◌, subst, arith}
use lib.ListN.{length-map}
use Rattle.std.proofs.lemmas.List.{map_push, length_push}
use Rattle.waiting_line.specs.declared.line.WaitingLine.{Ghosts as WaitingLine}
use Rattle.slot_clock.specs.declared.clock.SlotClock.{Ghosts as SlotClock}
use Rattle.tick_machine.specs.declared.packet.Departed.{Departed}
use Rattle.tick_machine.specs.declared.packet.SlipCopy.{SlipCopy}
use Rattle.tick_machine.specs.declared.call.Call.{Call}
use Rattle.tick_machine.specs.declared.call.Call.TheVariants.{Collect}
use Rattle.tick_machine.specs.declared.call.Answer.TheVariants.{Collected}
use Rattle.tick_machine.specs.Desk.{first, handed}
use Rattle.tick_machine.specs.Machine.{Config}
use Rattle.tick_machine.specs.Life.{slip_of, after}
use Rattle.link.specs.declared.link.Link.{Link}
use Rattle.link.specs.declared.slip.Slip.{Slip}
use Rattle.link.specs.Promise.{Goes, collected_as}
use Rattle.link.proofs.Outs.{Said, said_one}
use Rattle.link.proofs.Reached.{reached_small}
use Rattle.replay.specs.History.{packets, OfLink}
use Rattle.replay.specs.Hand.{Held, Answered}
use Rattle.replay.proofs.Hands.{all_push}

-- nothing is handed out where no slip is said
said_none : (link : ℕ) (ds : List Departed) (out : List ℕ) → Collected None ≡ Collected (slip_of link (first ds)) → handed ds out ≡ out
said_none link [] out e = refl
said_none link (d ∷ ds) out e = let z : ◌≡◌ {A = ℕ} 0 1 = cc in absurd (omega arith)

module _ {W S : Type 0} {line : WaitingLine W} {clock : SlotClock S} {c : Config} {calls : List Call} {l : Link W S} {ss : List Slip}
    (h : Held line clock c calls (record { link = l; slips = ss })) where
  pub none_answered : {l' : Link W S} → Goes line clock c calls l Collect (collected_as None) l' → Answered line clock c calls Collect (Collected None) (record { link = l'; slips = ss })
  none_answered g = record {
    held = record { led = g.led; out = h.out ∙ sym (said_none c.link (after c calls).desk.left (after c calls).desk.out g.told); own = h.own };
    told = g.told;
  }

  module _ {l' : Link W S} (s : Slip) (g : Goes line clock c calls l Collect (collected_as (Some s)) l') where
    said : Said c.link (after c calls).desk.left (after c calls).desk.out s.says
    said =
        let first_is : Some s.says ≡ slip_of c.link (first (after c calls).desk.left) = cc g.told in
        said_one c.link (after c calls).desk.left (after c calls).desk.out s.says first_is

    -- there are at most 1024 packets out after it
    pub has_room : length ss + 1 ≤ 1024
    has_room =
        let small = (reached_small c h.led.drafted (Collect ∷ calls)).unsettled in
        let many : length (after c (Collect ∷ calls)).desk.out ≡ length ss + 1
        = ap length said.handed_is ∙ length_push (after c calls).desk.out s.says.packet ∙ ap (λ (xs : List ℕ). length xs + 1) (sym h.out) ∙ ap (λ n. n + 1) (length-map ss (λ (x : Slip). x.says.packet)) in
        omega (arith, small, many)

    pub one_answered : (says : SlipCopy) (ss' : List Slip) → says ≡ s.says → ss' ≡ ss ++ s ∷ [] → Answered line clock c calls Collect (Collected (Some says)) (record { link = l'; slips = ss' })
    one_answered says ss' e q = record {
      held = record {
        led = g.led;
        out = ap packets q ∙ map_push (λ (x : Slip). x.says.packet) ss s ∙ ap (λ ns. ns ++ s.says.packet ∷ []) h.out ∙ sym said.handed_is;
        own = subst (OfLink c.link) (sym q) (all_push c.link ss s h.own said.link_is);
      };
      told = ap (λ (x : SlipCopy). Collected (Some x)) e ∙ g.told;
    }
