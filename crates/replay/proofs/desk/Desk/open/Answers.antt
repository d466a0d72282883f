use Rattle.std.proofs.Common.{[], arith}
use Rattle.replay.proofs.Living.{opened_held}
use Rattle.replay.proofs.desk.Desk.open.Goals as goal

pub invariant_of-result : goal.invariant_of-result
invariant_of-result g c =
    let p = c.requires in
    ((p.0, ([], opened_held _ (c.open-link.ensures p.0 p.1) c.in_ok-slips.ensures.items)), omega (arith, c.in_ok-slips.ensures.capacity))
