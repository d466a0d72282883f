use Rattle.std.proofs.Common.{◌∙◌}
use Rattle.link.proofs.Readings.{bytes_counted, bytes_passed}
use Rattle.link.proofs.link.readings.bytes_of.Goals as goal
use Rattle.link.proofs.link.readings.bytes_of.Goals.{then-packet-session, else-packet-session}

pub loop-packet-preserved : goal.loop-packet-preserved
loop-packet-preserved c =
    elim c.if-packet-session.branch [
      | then-packet-session w ↦ bytes_counted c.args.session c.args.table.now c.loop-packet.packet-index _ c.loop-packet-test.true c.loop-packet.sum c.if-packet-session.sum c.loop-packet.invariant
          w.if-packet-session.true (w.sum-is ∙ w.saturating_add-sum.ensures)
      | else-packet-session w ↦ bytes_passed c.args.session c.args.table.now c.loop-packet.packet-index _ c.loop-packet-test.true c.loop-packet.sum c.if-packet-session.sum c.loop-packet.invariant
          w.if-packet-session.false w.sum-is
    ]
