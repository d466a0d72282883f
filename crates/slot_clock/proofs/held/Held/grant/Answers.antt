use Rattle.std.proofs.Common.{◌+◌, refl, sym, ap, ◌∙◌, subst, arith}
use Rattle.tick_machine.specs.Owed.{shown_round}
use Rattle.slot_clock.specs.State.{state_of}
use Rattle.slot_clock.specs.Sound.{Sound}
use Rattle.slot_clock.specs.Held.{weights_of, held_state}
use Rattle.slot_clock.specs.Holding.{held_stamp, held_added, held_answer, held_after}
use Rattle.slot_clock.proofs.Writes.{written}
use Rattle.slot_clock.proofs.held.Held.grant.Goals as goal

pub overflow_add-stamp : goal.overflow_add-stamp
overflow_add-stamp c = omega (arith, held_stamp c.args.self.now c.args.session c.args.size c.args.from c.requires.room c.args.stamp c.requires.stamp)

pub invariant_of-self : goal.invariant_of-self
invariant_of-self c =
    let h = c.args.self.now in
    let i = c.args.session in
    let x = c.args.stamp + 1 in
    let e = written h.next c.deref_mut.result.now i x c.deref_mut.ensures.value in
    let s = subst (λ xs. Sound (weights_of h) xs h.layout.slots h.cursor h.ticks (h.owed + c.args.size)) (sym e)
    (held_added h i c.args.size c.args.from c.requires.room c.args.stamp c.requires.stamp) in
    record { small = c.args.self.now.small; each = c.args.self.now.each; same = s.same; tops = s.tops; paced = s.paced; few = s.few; sum = s.sum; inside = s.inside }

pub returns : goal.returns
unfolding held_state
returns c =
    let h = c.args.self.now in
    let i = c.args.session in
    let x = c.args.stamp + 1 in
    let e = written h.next c.deref_mut.result.now i x c.deref_mut.ensures.value in
    record {
      answer = held_answer h i c.args.size c.args.from c.requires.room c.args.stamp c.requires.stamp;
      after = ap (λ xs. state_of (weights_of h) h.ticks (shown_round (weights_of h) h.cursor xs)) e ∙ held_after h i c.args.size c.args.from c.requires.room c.args.stamp c.requires.stamp;
      next = (refl, e);
    }
