use Rattle.tick_machine.proofs.Stands.{is_well_kept}
use Rattle.tick_machine.proofs.theorems.numbers_stand.Goals as goal

pub returns : goal.returns
returns _ = is_well_kept
