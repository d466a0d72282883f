-- What an answer prints after its word: its values, or the numbers of its refusal. Assumes nothing.
use Rattle.std.specs.Prelude.{List, [], ◌∷◌, map, ℤ, pos, Some, None, Option}
use Rattle.tick_machine.specs.declared.packet.SlipCopy.{SlipCopy}
use Rattle.tick_machine.specs.declared.call.Answer.{Answer}
use Rattle.tick_machine.specs.declared.call.Answer.TheVariants.{Made, Added, Opened, Accepted, Moved, Collected, Filed, Returned, FiguresAre, TotalsAre, Refused}
use Rattle.tick_machine.specs.Refusals.{numbers}

-- packet, session, tag, starting tick, leaving tick; nothing where no slip was handed out
abbrev pub slip_values : Option SlipCopy → List ℤ
slip_values None = []
slip_values (Some s) = pos s.packet ∷ pos s.session ∷ pos s.tag ∷ pos s.started ∷ pos s.left ∷ []

abbrev pub values : Answer → List ℤ
values (Made link) = pos link ∷ []
values (Added session) = pos session ∷ []
values (Opened round) = pos round ∷ []
values (Accepted number stamp latest) = pos number ∷ pos stamp ∷ pos latest ∷ []
values (Moved clock left) = pos clock ∷ pos left ∷ []
values (Collected o) = slip_values o
values (Filed number) = pos number ∷ []
values (Returned number) = pos number ∷ []
values (FiguresAre f) = pos f.accepted ∷ pos f.sent ∷ pos f.served ∷ f.lead ∷ pos f.waiting ∷ []
values (TotalsAre t) = pos t.waiting ∷ pos t.sending ∷ pos t.left ∷ pos t.out ∷ pos t.filed ∷ pos t.returned ∷ []
values (Refused r) = map pos (numbers r)
