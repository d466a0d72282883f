use Rattle.tick_machine.proofs.Ownership.{position_has_one_owner, session_owns_its_weight}
use Rattle.tick_machine.proofs.theorems.ownership_stands.Goals as goal

pub returns : goal.returns
returns _ = record { each_position_has_one_owner = position_has_one_owner; each_session_owns_its_weight = session_owns_its_weight }
