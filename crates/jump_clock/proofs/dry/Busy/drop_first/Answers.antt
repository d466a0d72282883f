use Rattle.std.proofs.Common.{arith}
use Rattle.jump_clock.proofs.Heaps.{lost}
use Rattle.jump_clock.proofs.dry.Busy.drop_first.Goals as goal

pub invariant_of-self : goal.invariant_of-self
invariant_of-self c = record { few = omega (arith, c.lower.ensures.len, c.swap_remove.ensures.len, c.args.self.now.few); ordered = c.lower.ensures.ordered }

pub returns : goal.returns
returns c = record {
  lost = lost c.args.self.now.places.items _ _ c.swap_remove.result c.requires c.swap_remove.ensures.value c.swap_remove.ensures.items c.lower.ensures.shuffled;
  count = omega (arith, c.lower.ensures.len, c.swap_remove.ensures.len);
}
