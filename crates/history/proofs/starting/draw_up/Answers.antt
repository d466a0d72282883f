use Rattle.std.proofs.Common.{◌≡◌, sym, refl, ap, ◌∙◌, subst, rules}
use Rattle.tick_machine.specs.declared.call.Answer.TheVariants.{Added}
use Rattle.tick_machine.specs.Life.{told, added}
use Rattle.history_text.specs.declared.commands.Command.{Command}
use Rattle.history_reply.specs.declared.replies.Reply.TheVariants as reply
use Rattle.history_reply.specs.Stages.{at_draft}
use Rattle.history.specs.declared.clerk.LinkClerk.TheVariants as clerk
use Rattle.history.specs.Standing.{Stands, Went}
use Rattle.history.proofs.starting.draw_up.Goals as goal

pub returns-in-Add : goal.returns-in-Add
returns-in-Add g c f h =
    let a = c.add.ensures.added f h in
    let said : c.map_or_else-answer.result ≡ told Added c.add.result = search rules in
    subst (λ (x : Command). Went (Stands g.W.WaitingLine g.S.SlotClock) (at_draft c.args.n f x) (clerk.Drafting c.add.new.self) (reply.Answer c.map_or_else-answer.result)) (sym c.in-Add.is)
    (record { replied = ap reply.Answer (said ∙ ap (told Added) a.told); here = record { config = added f c.in-Add.weight; is = refl; drafts = a.drafts } })
