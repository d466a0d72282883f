use Rattle.tick_machine.proofs.Stands.{figures_are_told, figures_do_add_up}
use Rattle.tick_machine.proofs.theorems.figures_stand.Goals as goal

pub returns : goal.returns
returns _ = record { in_every_history = figures_are_told; of_every_machine = figures_do_add_up }
