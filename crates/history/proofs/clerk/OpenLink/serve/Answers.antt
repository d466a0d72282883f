use Rattle.std.proofs.Common.{◌≡◌, refl, rules}
use Rattle.tick_machine.specs.declared.call.Answer.TheVariants.{Moved}
use Rattle.tick_machine.specs.Life.{told}
use Rattle.history.proofs.Goings.{moved}
use Rattle.history.proofs.clerk.OpenLink.serve.Goals as goal

pub returns-in-MoveTo : goal.returns-in-MoveTo
returns-in-MoveTo g c s k =
    let said : c.map_or_else-answer-in-MoveTo.result ≡ told (Moved c.in-MoveTo.tick) c.move_to.result = search rules in
    moved g.W.WaitingLine g.S.SlotClock c.args.n s c.args.self (record { link = c.move_to.new.self; hand = c.args.self.hand }) _ c.map_or_else-answer-in-MoveTo.result c.args.command c.in-MoveTo.tick c.in-MoveTo.is refl said c.move_to.ensures k
