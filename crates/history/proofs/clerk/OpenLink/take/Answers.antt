use Rattle.std.proofs.Common.{◌≡◌, Option, ap, rules}
use Rattle.tick_machine.specs.declared.packet.SlipCopy.{SlipCopy}
use Rattle.tick_machine.specs.declared.call.Answer.TheVariants.{Collected}
use Rattle.history.specs.Standing.{copied}
use Rattle.history.proofs.Goings.{taken}
use Rattle.history.proofs.clerk.OpenLink.take.Goals as goal

pub returns-in-None : goal.returns-in-None
returns-in-None g c s k =
    let says : c.map.result ≡ copied c.collect-hand.result = search rules in
    taken g.W.WaitingLine g.S.SlotClock c.args.n s c.args.self (record { link = c.collect-hand.new.self; hand = c.collect-hand.result }) _ c.in-None.is (ap (λ (o : Option SlipCopy). Collected o) says) c.collect-hand.ensures k
