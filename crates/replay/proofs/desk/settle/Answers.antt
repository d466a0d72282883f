use Rattle.std.proofs.Common.{◌∙◌, sym}
use Rattle.replay.proofs.Hands.{missing_answered}
use Rattle.replay.proofs.desk.settle.Goals as goal

pub returns-in-Err-clause-answered : goal.returns-in-Err-clause-answered
returns-in-Err-clause-answered g c f calls h =
    missing_answered _ c.args.number c.args.packet c.in-Err.e h c.in-Err.ensures.found (sym (c.number.ensures ∙ h.led.shown.number_is)) c.args.how
