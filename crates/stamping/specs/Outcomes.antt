-- What becomes of a step, for a clock's state and a line's pairs and capacity. Assumes nothing.
use Rattle.std.specs.Prelude.{ℕ, List, Ok, Err, Result}
use Rattle.tick_machine.specs.declared.refusal.LineRefusal.{LineRefusal}
use Rattle.waiting_line.specs.declared.pair.Pair.{Pair}
use Rattle.waiting_line.specs.Lines.{room_answer, put_answer}
use Rattle.slot_clock.specs.declared.refusal.ClockRefusal.{ClockRefusal}
use Rattle.slot_clock.specs.State.{SlotState}
use Rattle.slot_clock.specs.Calls.{add_answer, run_answer}
use Rattle.stamping.specs.declared.reading.Step.{Step}
use Rattle.stamping.specs.declared.reading.Step.TheVariants.{Packet, Run, Put}
use Rattle.stamping.specs.declared.outcome.Done.{Done}
use Rattle.stamping.specs.declared.outcome.Done.TheVariants.{Waits, Ran}
use Rattle.stamping.specs.declared.outcome.Refused.{Refused}
use Rattle.stamping.specs.declared.outcome.Refused.TheVariants.{NotTimed, NoPlace}

-- of a run of k ticks, with the clock's answer
abbrev pub told_run : ℕ → Result (Unit {0}) ClockRefusal → Result Done Refused
told_run k (Ok u) = Ok (Ran k)
told_run k (Err e) = Err (NotTimed e)

-- of a packet with this stamp, with the line's answer
abbrev pub told_put : ℕ → Result (Unit {0}) LineRefusal → Result Done Refused
told_put s (Ok u) = Ok (Waits s)
told_put s (Err e) = Err (NoPlace e)

-- of a packet for which there is room, with the clock's answer
abbrev pub told_stamp : List Pair → ℕ → ℕ → Result ℕ ClockRefusal → Result Done Refused
told_stamp ps most packet (Ok s) = told_put s (put_answer ps most (record { stamp = s; packet = packet }))
told_stamp ps most packet (Err e) = Err (NotTimed e)

-- without room the clock is not asked
abbrev pub told_room : Result (Unit {0}) LineRefusal → Result Done Refused → Result Done Refused
told_room (Ok u) o = o
told_room (Err e) o = Err (NoPlace e)

-- of any step; a packet's number is given
abbrev pub told_step : SlotState → List Pair → ℕ → Step → ℕ → Result Done Refused
told_step s ps most (Packet i n) packet = told_room (room_answer ps most) (told_stamp ps most packet (add_answer s i n))
told_step s ps most (Run k) packet = told_run k (run_answer s k)
told_step s ps most (Put x) packet = told_put x (put_answer ps most (record { stamp = x; packet = packet }))
