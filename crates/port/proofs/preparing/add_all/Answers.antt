use Rattle.std.proofs.Common.{◌≡◌, Err, arith, rules}
use Rattle.port.proofs.Addings.{come_further, come_refused, come_all}
use Rattle.port.proofs.preparing.add_all.Goals as goal

pub returns-in_err-add : goal.returns-in_err-add
returns-in_err-add g c f h =
    let told : c.from_residual.result ≡ Err c.in_err-add.field-0.0 = search rules in
    rw told (come_refused f c.args.weights.now c.loop-weight.weight-index 0 c.loop-weight-test.true c.add.result (c.loop-weight.invariant f h) (c.add.ensures.added _ (c.loop-weight.invariant f h).0) c.in_err-add.field-0.0 c.in_err-add.was)

pub loop-weight-preserved : goal.loop-weight-preserved
loop-weight-preserved g c f h =
    come_further f c.args.weights.now c.loop-weight.weight-index 0 c.loop-weight-test.true c.add.result (c.loop-weight.invariant f h) (c.add.ensures.added _ (c.loop-weight.invariant f h).0) c.in_ok-add.field-0 c.in_ok-add.was

pub returns : goal.returns
returns g c f h = come_all f c.args.weights.now c.loop-weight.weight-index (omega arith) (c.loop-weight.invariant f h)
