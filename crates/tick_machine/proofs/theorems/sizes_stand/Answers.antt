use Rattle.tick_machine.proofs.Stands.{all_stays_small}
use Rattle.tick_machine.proofs.theorems.sizes_stand.Goals as goal

pub returns : goal.returns
returns _ = all_stays_small
