use Rattle.tick_machine.proofs.Computed.{a_small_morning_stands}
use Rattle.tick_machine.proofs.cases.a_small_morning_stands.Goals as goal

pub returns : goal.returns
returns _ = a_small_morning_stands
