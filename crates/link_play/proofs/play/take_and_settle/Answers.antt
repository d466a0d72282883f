use Rattle.std.proofs.Common.{◌∷◌}
use Rattle.tick_machine.specs.declared.call.Call.TheVariants.{Collect}
use Rattle.link_play.proofs.Replies.{just_taken_granted, spent}
use Rattle.link_play.proofs.play.take_and_settle.Goals as goal

pub unreachable-requires : goal.unreachable-requires
unreachable-requires g c =
    let k = c.requires in
    let goes = c.in-Some.ensures k.config k.calls k.led in
    just_taken_granted goes _ _ c.args.how (c.in-Err.ensures.keeps k.config (Collect ∷ k.calls) goes.led)

pub returns-in-Ok : goal.returns-in-Ok
returns-in-Ok g c f calls h =
    let goes = c.in-Some.ensures f calls h in
    spent goes c.args.how c.copy-says.result _ _ c.copy-says.ensures (c.in-Ok.ensures.keeps f (Collect ∷ calls) goes.led)
