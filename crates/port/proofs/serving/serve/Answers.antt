use Rattle.std.proofs.Common.{◌∙◌}
use Rattle.port.proofs.serving.serve.Goals as goal

pub loop-preserved : goal.loop-preserved
loop-preserved g c =
    let r = c.loop.invariant.0 in
    ((r.0, (_, (c.turn.ensures.turns r.0 r.1.0 r.1.1).held)), c.turn.ensures.room ∙ c.loop.invariant.1)

pub returns-in_err-write_answer-clause-held : goal.returns-in_err-write_answer-clause-held
returns-in_err-write_answer-clause-held g c =
    let r = c.loop.invariant.0 in
    (r.0, (_, (c.turn.ensures.turns r.0 r.1.0 r.1.1).held))
