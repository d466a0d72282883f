use Rattle.std.proofs.Common.{List, vec_items, sym, subst}
use Rattle.tick_machine.specs.Life.{drafted}
use Rattle.link.specs.declared.slip.Slip.{Slip}
use Rattle.replay.specs.History.{Lives}
use Rattle.replay.proofs.Living.{opened_held, lives}
use Rattle.replay.proofs.play.live.Goals as goal

pub open-requires : goal.open-requires
open-requires g c =
    let p = c.requires.drafts in
    (drafted p.0 c.args.addings.now, (c.add_all.ensures.added p.0 p.1).drafts)

pub returns : goal.returns
returns g c f h n =
    let all = drafted f c.args.addings.now in
    let added = c.add_all.ensures.added f h in
    let opens = c.in_ok-desk.ensures.opened all added.drafts in
    let life = lives f c.args.addings.now c.args.calls.now c.args.number _ _ _ _ _ _ c.requires.room.0 c.push_reserved.ensures.items added.told c.push_reserved-2.ensures.items n opens (c.call_all.ensures all (opened_held _ opens c.in_ok-desk.ensures.none)) in
    subst (λ (ss : List Slip). Lives f c.args.addings.now c.args.calls.now (vec_items c.call_all.new.answers) ss) (sym c.into_slips-slips.ensures) life
