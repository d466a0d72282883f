use Rattle.tick_machine.proofs.Stands.{law}
use Rattle.tick_machine.proofs.theorems.law_stands.Goals as goal

pub returns : goal.returns
returns _ = law
