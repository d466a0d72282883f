use Rattle.std.proofs.Common.{refl, ◌∙◌, arith}
use Rattle.slot_clock.specs.Held.{held_state}
use Rattle.slot_clock.specs.Holding.{held_passed, pass_answer, pass_after}
use Rattle.slot_clock.proofs.held.Held.pass.Goals as goal

pub invariant_of-self : goal.invariant_of-self
invariant_of-self c =
    let h = c.args.self.now in
    let s = held_passed h c.args.ticks c.args.to c.requires.few c.requires.there in
    let left = c.saturating_sub-self.ensures in
    record { small = c.args.self.now.small; each = c.args.self.now.each; same = h.same; tops = s.tops; paced = s.paced; few = s.few; sum = left ∙ s.sum; inside = omega (arith, s.inside, left) }

pub returns : goal.returns
unfolding held_state
returns c = record {
  answer = pass_answer c.args.self.now c.args.ticks c.args.to c.requires.few c.requires.there;
  after = pass_after c.args.self.now c.args.ticks c.args.to c.requires.few c.requires.there;
  next = (refl, refl);
}
