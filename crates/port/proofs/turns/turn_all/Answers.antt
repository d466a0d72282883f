use Rattle.std.proofs.Common.{ℕ, [], take, vec_items, subst, arith, rules}
use Rattle.std.proofs.lemmas.List.{length-take, get_or-take}
use Rattle.port.specs.declared.records.CallRecord.{CallRecord}
use Rattle.port.specs.Turns.{grown_by, Turned, TurnedAll}
use Rattle.port.proofs.Turning.{turned_more}
use Rattle.port.proofs.turns.turn_all.Goals as goal

pub loop-i-preserved : goal.loop-i-preserved
loop-i-preserved g c =
    let inv = c.loop-i.invariant in
    let calls = c.args.calls.now in
    let few = length-take c.many-count.result calls in
    let p = inv.2 in (
      omega (arith, c.turn.ensures.room, inv.0),
      search rules,
      (p.0, (_, (c.turn.ensures.turns p.0 p.1.0 p.1.1).held)),
      λ f h.
          let turned = c.turn.ensures.turns f _ (inv.3 f h).held in
          turned_more calls c.loop-i.i _ (omega (arith, few)) c.args.answers.now c.loop-i.answers c.turn.result (omega (arith, inv.1, few)) (inv.3 f h)
          (subst (λ (r : CallRecord). Turned g.W.WaitingLine g.S.SlotClock f (grown_by [] (take c.loop-i.i calls)) r c.turn.result (record { link = c.turn.new.link; slips = vec_items c.turn.new.slips })) (get_or-take c.many-count.result calls c.loop-i.i _ (omega (arith, few))) turned),
    )

pub returns : goal.returns
returns g c =
    let inv = c.loop-i.invariant in
    let few = length-take c.many-count.result c.args.calls.now in
    record {
      turned = λ f h.
          subst (λ (n : ℕ). TurnedAll g.W.WaitingLine g.S.SlotClock f n c.args.calls.now c.args.answers.now c.loop-i.answers (record { link = c.loop-i.link; slips = vec_items c.loop-i.slips })) (omega (arith, few)) (inv.3 f h);
      held = inv.2;
      room = inv.0;
    }
