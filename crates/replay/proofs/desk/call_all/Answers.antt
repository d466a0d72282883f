use Rattle.std.proofs.Common.{List, vec_items, subst, arith, take_all}
use Rattle.tick_machine.specs.declared.call.Call.{Call}
use Rattle.replay.specs.Hand.{Called}
use Rattle.replay.proofs.Turning.{called_more}
use Rattle.replay.proofs.desk.call_all.Goals as goal

pub loop-call-preserved : goal.loop-call-preserved
loop-call-preserved g c =
    let inv = c.loop-call.invariant in
    let said = c.push_reserved.ensures in
    let p = inv.3 in (
      omega (arith, c.answer.ensures.room, inv.0),
      omega (arith, said.len, inv.1),
      omega (arith, said.capacity, inv.2),
      (p.0, (_, (c.answer.ensures.answered p.0 p.1.0 p.1.1).held)),
      λ f h.
          called_more c.args.calls.now c.loop-call.call-index _ c.loop-call-test.true _ _ _ c.answer.result (inv.4 f h) said.items (c.answer.ensures.answered f _ (inv.4 f h).held),
    )

pub returns : goal.returns
returns g c =
    let inv = c.loop-call.invariant in
    let t = take_all c.loop-call.call-index c.args.calls.now (omega arith) in
    record {
      called = λ f h.
          subst (λ (x : List Call). Called g.W.WaitingLine g.S.SlotClock f x (vec_items c.args.answers.now) (record { link = c.loop-call.link; slips = vec_items c.loop-call.slips }) (vec_items c.loop-call.answers)) t (inv.4 f h);
      held = inv.3;
      room = inv.0;
    }
