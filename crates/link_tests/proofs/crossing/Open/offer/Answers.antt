use Rattle.std.proofs.Common.{◌∷◌, subst}
use Rattle.tick_machine.specs.declared.call.Call.TheVariants.{Collect, File}
use Rattle.tick_machine.specs.declared.call.Answer.TheVariants.{Refused}
use Rattle.link.specs.declared.slip.Slip.{Slip}
use Rattle.link.specs.Promise.{Goes}
use Rattle.link_tests.proofs.Slips.{filing_granted}
use Rattle.link_tests.proofs.crossing.Open.offer.Goals as goal

pub unreachable-requires : goal.unreachable-requires
unreachable-requires g c =
    let k = c.self.invariant in
    let goes = c.in_ok-slip.ensures k.0 k.1.0 k.1.1 in
    let again = c.in-Err-file.ensures.keeps k.0 (Collect ∷ k.1.0) goes.led in
    let why = c.in-Err-file._again.0 in
    filing_granted c.in_ok-slip.slip why goes
    (subst (λ (s : Slip). Goes g.W.WaitingLine g.S.SlotClock k.0 (Collect ∷ k.1.0) c.collect.new.self (File s.says.link s.says.packet) (Refused why) c.file-in-Err.new.self) c.in-Err.ensures.back again)

pub invariant_of-self-in-Err : goal.invariant_of-self-in-Err
invariant_of-self-in-Err g c =
    let k = c.self.invariant in
    let goes = c.in_ok-slip.ensures k.0 k.1.0 k.1.1 in
    (k.0, (_, (c.file-in-Err.ensures.keeps k.0 _ goes.led).led))
