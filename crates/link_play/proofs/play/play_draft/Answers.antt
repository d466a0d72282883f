use Rattle.std.proofs.Common.{[], vec_items}
use Rattle.tick_machine.specs.Slots.{round_length}
use Rattle.tick_machine.specs.Life.{drafted}
use Rattle.replay.specs.History.{adding_answers}
use Rattle.link_play.specs.Plays.{replies}
use Rattle.link_play.proofs.Replies.{joined}
use Rattle.link_play.proofs.play.play_draft.Goals as goal

pub play_all-requires-clause-held : goal.play_all-requires-clause-held
play_all-requires-clause-held g c =
    let k = c.requires.drafts in
    let f = drafted k.0 c.args.weights.now in
    record { config = f; calls = []; led = (c.open-link.ensures f (c.add_all.ensures.added k.0 k.1).drafts).led }

pub returns : goal.returns
returns g c f h =
    let ws = c.args.weights.now in
    let a = c.add_all.ensures.added f h in
    let o = c.open-link.ensures (drafted f ws) a.drafts in
    joined (vec_items c.args.answers.now) (vec_items c.add_all.new.answers) (vec_items c.push_reserved.new.self) (vec_items c.play_all.new.answers) (adding_answers f ws) (replies (drafted f ws) [] c.args.steps.now) c.open-link.result.1 (round_length (drafted f ws).weights)
    a.told c.push_reserved.ensures.items o.told (c.play_all.ensures (drafted f ws) [] o.led)
