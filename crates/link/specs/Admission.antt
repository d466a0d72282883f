-- The checks of an arrival, apart from what is offered. Assumes nothing.
use Rattle.std.specs.Prelude.{ℕ, cond, length, Ok, Err, Result, nat_le, nat_lt}
use Rattle.tick_machine.specs.declared.refusal.LineRefusal.TheVariants.{Full}
use Rattle.tick_machine.specs.declared.refusal.Refusal.{Refusal}
use Rattle.tick_machine.specs.declared.refusal.Refusal.TheVariants.{UnknownSession, Empty, TooLong, NoRoom, TooManyUnsettled}
use Rattle.tick_machine.specs.Machine.{Config, Machine}
use Rattle.tick_machine.specs.Life.{unsettled}

-- whether a packet of n bytes of session i may come in
abbrev pub admission : Config → ℕ → ℕ → Machine → Result (Unit {0}) Refusal
admission c i n m =
    cond (nat_lt i (length c.weights))
    (cond (nat_lt 0 n)
    (cond (nat_le n c.largest)
    (cond (nat_lt (length m.sender.waiting) c.capacity)
    (cond (nat_lt (unsettled m) 1024)
    (Ok tt)
    (Err TooManyUnsettled))
    (Err (NoRoom Full)))
    (Err TooLong))
    (Err Empty))
    (Err UnknownSession)
