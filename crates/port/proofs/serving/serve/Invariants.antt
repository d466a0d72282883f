use Rattle.std.proofs.Common.{◌≡◌, vec_items, vec_capacity}
use Rattle.replay.specs.Hand.{Reached}
use Rattle.port.proofs.serving.serve.Given as goal

abbrev pub invariant-loop : goal.invariant-loop
invariant-loop g l = Reached g.W.WaitingLine g.S.SlotClock (record { link = l.link; slips = vec_items l.slips }) × (vec_capacity l.slips ≡ vec_capacity l.initial.slips)
