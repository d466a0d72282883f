use Rattle.std.proofs.Common.{refl}
use Rattle.slot_clock.specs.Held.{held_state}
use Rattle.slot_clock.proofs.held.Held.cursor.Goals as goal

pub returns : goal.returns
unfolding held_state
returns c = refl
