use Rattle.std.proofs.Common.{vec_items, rules}
use Rattle.replay.proofs.Living.{refused_plays}
use Rattle.replay.proofs.play.play.Goals as goal

pub returns-in-Err-Refused : goal.returns-in-Err-Refused
returns-in-Err-Refused g c =
    let put = c.push_reserved.ensures.items in
    refused_plays g.W.WaitingLine c.args.making c.in-Err-Refused.refusal c.args.addings.now c.args.calls.now _ (vec_items c.push_reserved.new.self) _ c.in-Err-Refused.field-0 c.in-Err-Refused.field-0-is
    c.in-Err-Refused.ensures c.in_ok-answers.ensures.items (search rules) c.new-slips.ensures.items
