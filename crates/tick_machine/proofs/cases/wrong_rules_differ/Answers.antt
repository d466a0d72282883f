use Rattle.tick_machine.proofs.Computed.{wrong_rules_differ}
use Rattle.tick_machine.proofs.cases.wrong_rules_differ.Goals as goal

pub returns : goal.returns
returns _ = wrong_rules_differ
