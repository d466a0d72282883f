use Rattle.tick_machine.proofs.Stands.{same_work}
use Rattle.tick_machine.proofs.theorems.work_stands.Goals as goal

pub returns : goal.returns
returns _ = same_work
