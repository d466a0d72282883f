use Rattle.tick_machine.proofs.Stands.{totals_do_add_up}
use Rattle.tick_machine.proofs.theorems.totals_stand.Goals as goal

pub returns : goal.returns
returns _ = totals_do_add_up
