use Rattle.std.proofs.Common.{arith}
use Rattle.jump_clock.proofs.Heaps.{gained}
use Rattle.jump_clock.proofs.dry.Busy.enter.Goals as goal

pub invariant_of-self : goal.invariant_of-self
invariant_of-self c = record { few = omega (arith, c.raise.ensures.len, c.push.ensures.len, c.requires); ordered = c.raise.ensures.ordered }

pub returns : goal.returns
returns c = gained c.args.self.now.places.items _ _ c.args.x c.push.ensures.items c.raise.ensures.shuffled
