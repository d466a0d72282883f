use Rattle.std.proofs.Common.{◌≡◌, ◌<◌, length, get_or, vec_items, arith, rules}
use Rattle.replay.proofs.Returning.{one_fewer}
use Rattle.replay.proofs.desk.return_all.Goals as goal

pub loop-slip-smaller : goal.loop-slip-smaller
loop-slip-smaller g c =
    let r = c.loop-slip.invariant.0 in
    let a = c.settle.ensures.answered r.0 r.1.0 r.1.1 in
    let some : 0 < length (vec_items c.loop-slip.slips) = search rules in
    let says : c.copy-says.result ≡ (get_or (vec_items c.loop-slip.slips) 0 c.in-Some.slip.now).says = search rules in
    omega (arith, one_fewer (vec_items c.loop-slip.slips) c.copy-says.result c.in-Some.slip.now some says r.1.1 a)
