use Rattle.slot_clock.proofs.Servers.{state_tells_the_round, adding_is_accepting, running_is_ticking}
use Rattle.slot_clock.proofs.theorems.clocks_are_round_servers.Goals as goal

pub returns : goal.returns
returns c = record { told = state_tells_the_round; adds = adding_is_accepting; runs = running_is_ticking }
