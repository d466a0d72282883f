use Rattle.std.proofs.Common.{◌≡◌, length, vec_items, vec_capacity}
use Rattle.replay.specs.Hand.{Reached}
use Rattle.replay.proofs.desk.return_all.Given as goal

abbrev pub invariant-loop-slip : goal.invariant-loop-slip
invariant-loop-slip g l = Reached g.W.WaitingLine g.S.SlotClock (record { link = l.link; slips = vec_items l.slips }) × (vec_capacity l.slips ≡ vec_capacity l.initial.slips)

abbrev pub decreases-loop-slip : goal.decreases-loop-slip
decreases-loop-slip g l = length (vec_items l.slips)
