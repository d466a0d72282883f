use Rattle.slot_clock.specs.Blocks.{left_first, left_next, left_last}
use Rattle.slot_clock.proofs.layout.holder_of.Goals as goal

pub loop-i-init : goal.loop-i-init
loop-i-init c = left_first c.args.weights.now c.args.position c.requires

pub returns-then-p-weight-clause-is : goal.returns-then-p-weight-clause-is
returns-then-p-weight-clause-is c = left_last c.args.weights.now c.args.position c.loop-i.i c.loop-i.p c.loop-i.invariant c.if-p-weight.true

pub loop-i-preserved : goal.loop-i-preserved
loop-i-preserved c = left_next c.args.weights.now c.args.position c.loop-i.i c.loop-i.p c.loop-i.invariant c.if-p-weight.false
