-- The bytes left on a line that is not free. Assumes nothing.
use Rattle.std.specs.Prelude.{ℕ, Some, None}
use Rattle.tick_machine.specs.Sender.{Line}

abbrev pub at_work : Line → ℕ
at_work None = 1
at_work (Some s) = s.rest
