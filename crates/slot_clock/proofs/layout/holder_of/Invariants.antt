use Rattle.slot_clock.specs.Blocks.{Left}
use Rattle.slot_clock.proofs.layout.holder_of.Given as goal

abbrev pub invariant-loop-i : goal.invariant-loop-i
invariant-loop-i l = Left l.weights l.position l.i l.p
