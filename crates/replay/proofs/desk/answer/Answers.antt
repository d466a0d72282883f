use Rattle.std.proofs.Common.{◌≡◌, rules}
use Rattle.tick_machine.specs.declared.call.Answer.TheVariants.{Moved}
use Rattle.tick_machine.specs.Life.{told}
use Rattle.replay.proofs.Turning.{moved_answered}
use Rattle.replay.proofs.desk.answer.Goals as goal

pub returns-in-MoveTo : goal.returns-in-MoveTo
returns-in-MoveTo g c = record {
  answered = λ f calls h.
      let said : c.map_or_else-in-MoveTo.result ≡ told (Moved c.in-MoveTo.tick) c.move_to.result = search rules in
      moved_answered h c.in-MoveTo.is said (c.move_to.ensures f calls h.led);
  room = search rules;
}
