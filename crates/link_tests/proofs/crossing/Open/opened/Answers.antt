use Rattle.std.proofs.Common.{[]}
use Rattle.tick_machine.specs.Life.{made}
use Rattle.link_tests.proofs.Slips.{drafts_some}
use Rattle.link_tests.proofs.crossing.Open.opened.Goals as goal

pub invariant_of-result : goal.invariant_of-result
invariant_of-result g c =
    let d = drafts_some g.W.WaitingLine (made c.args.number 10 8 1) _ c.in_ok-make.ensures in
    (d.0, ([], (c.open-link.ensures d.0 d.1).led))
