-- The limits of a configuration. Assumes nothing.
use Rattle.std.specs.Prelude.{◌≤◌, length}
use Rattle.tick_machine.specs.Lists.{All}
use Rattle.tick_machine.specs.Slots.{round_length}
use Rattle.tick_machine.specs.Machine.{Config}
use Rattle.tick_machine.specs.Law.{Drafted}

-- what every link's configuration keeps
pub record Fit (c : Config) : Type 0 where
  pub link : c.link ≤ 65535
  pub largest_some : 1 ≤ c.largest
  pub largest : c.largest ≤ 65535
  pub capacity_some : 1 ≤ c.capacity
  pub capacity : c.capacity ≤ 1024
  pub sessions_some : 1 ≤ length c.weights
  pub sessions : length c.weights ≤ 64
  pub weights : All (λ w. 1 ≤ w) c.weights
  pub round : round_length c.weights ≤ 4096

abbrev pub DraftsKeepTheLimits : Type 0
DraftsKeepTheLimits = (c : Config) → Drafted c → Fit c
