use Rattle.tick_machine.proofs.Fits.{drafted_fits}
use Rattle.tick_machine.proofs.theorems.limits_stand.Goals as goal

pub returns : goal.returns
returns _ = drafted_fits
