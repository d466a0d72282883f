use Rattle.std.proofs.Common.{arith}
use Rattle.replay.proofs.Collecting.{has_room, one_answered}
use Rattle.replay.proofs.desk.collect.Goals as goal

pub push_reserved-requires : goal.push_reserved-requires
push_reserved-requires g c =
    let p = c.requires.held in
    let r = has_room p.1.1 c.in-Some.slip (c.in-Some.ensures p.0 p.1.0 p.1.1.led) in
    omega (arith, r, c.requires.places, c.args.slips.now.ok.0)

pub returns-in-Some : goal.returns-in-Some
returns-in-Some g c = record {
  answered = λ f calls h. one_answered h c.in-Some.slip (c.in-Some.ensures f calls h.led) c.copy-says.result _ c.copy-says.ensures c.push_reserved.ensures.items;
  room = c.push_reserved.ensures.capacity;
}
