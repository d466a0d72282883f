use Rattle.std.proofs.Common.{[], ◌∙◌, take}
use Rattle.replay.proofs.Living.{opened_held}
use Rattle.link.proofs.Reached.{lawful}
use Rattle.port.specs.Turns.{grown_by}
use Rattle.port.specs.Playing.{many}
use Rattle.port.proofs.exports.play.Goals as goal

pub returns : goal.returns
returns g c f h =
    let parts = c.into_parts-link.ensures in
    let all = c.turn_all.ensures.turned f (rw parts.link (opened_held _ (c.in_ok-desk.ensures.opened f h) (parts.slips ∙ c.in_ok-desk.ensures.none))) in
    record { told = all.told; rest = all.rest; lawful = lawful f h.drafted (grown_by [] (take (many c.args.calls.now c.args.answers.now) c.args.calls.now)) }
