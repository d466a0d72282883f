use Rattle.std.proofs.Common.{arith}
use Rattle.link.proofs.Admits.{crowded_refused, all_admitted}
use Rattle.link.proofs.link.Link.admit.Goals as goal

pub returns-then-unsettled-ge-UNSETTLED : goal.returns-then-unsettled-ge-UNSETTLED
returns-then-unsettled-ge-UNSETTLED g c = record {
  value = λ f m s. crowded_refused s c.args.session c.args.size (omega arith) c.if-size-eq0.false (omega arith) _ c.in_ok-room.ensures (omega arith);
  room = tt;
}

pub returns : goal.returns
returns g c = record {
  value = λ f m s. all_admitted s c.args.session c.args.size (omega arith) c.if-size-eq0.false (omega arith) _ c.in_ok-room.ensures (omega arith);
  room = omega arith;
}
