use Rattle.tick_machine.proofs.Computed.{every_case_holds}
use Rattle.tick_machine.proofs.cases.worked_cases_stand.Goals as goal

pub returns : goal.returns
returns _ = every_case_holds
