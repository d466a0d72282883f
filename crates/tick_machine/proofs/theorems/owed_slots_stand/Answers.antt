use Rattle.tick_machine.proofs.Stands.{owed_by_next}
use Rattle.tick_machine.proofs.theorems.owed_slots_stand.Goals as goal

pub returns : goal.returns
returns _ = owed_by_next
