use Rattle.tick_machine.proofs.Computed.{bounds_are_attained}
use Rattle.tick_machine.proofs.cases.bounds_are_attained.Goals as goal

pub returns : goal.returns
returns _ = bounds_are_attained
