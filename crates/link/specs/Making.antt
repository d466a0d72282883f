-- Why a draft is not made. Assumes nothing.
use Rattle.std.specs.Prelude.{Ok, Err, Result, alloc_error}
use Rattle.waiting_line.specs.declared.refusal.MakeRefusal.{MakeRefusal}
use Rattle.waiting_line.specs.declared.refusal.MakeRefusal.TheVariants as line
use Rattle.tick_machine.specs.declared.refusal.Refusal.{Refusal}
use Rattle.tick_machine.specs.declared.refusal.Refusal.TheVariants.{Capacity}
use Rattle.tick_machine.specs.Machine.{Config}
use Rattle.link.specs.declared.error.MakeError.{MakeError}
use Rattle.link.specs.declared.error.MakeError.TheVariants.{Refused, NoMemory}

-- a waiting line's refusal, carried whole
abbrev pub made_error : MakeRefusal → MakeError
made_error line.Capacity = Refused Capacity
made_error line.NoMemory = NoMemory alloc_error

-- the checks of a making, apart from what is made
abbrev pub checked : Result Config Refusal → Result (Unit {0}) Refusal
checked (Ok c) = Ok tt
checked (Err e) = Err e
