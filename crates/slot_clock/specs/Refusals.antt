-- The numbers by which a slot clock's refusals are told, the one definition that prints and promises use; and what such a refusal is to a link. Assumes nothing.
use Rattle.std.specs.Prelude.{ℕ}
use Rattle.tick_machine.specs.declared.refusal.Refusal.{Refusal}
use Rattle.tick_machine.specs.declared.refusal.Refusal.TheVariants as link
use Rattle.tick_machine.specs.declared.refusal.Refusal.TheVariants.{TooManySessions, TooMuchWeight, TooLong, TooManyUnsettled, PastTheEnd}
use Rattle.slot_clock.specs.declared.refusal.ClockRefusal.{ClockRefusal}
use Rattle.slot_clock.specs.declared.refusal.ClockRefusal.TheVariants.{Sessions, Weights, UnknownSession, Size, TooMuchOwed, TicksPastEnd}

-- its number
abbrev pub clock_number : ClockRefusal → ℕ
clock_number Sessions = 81
clock_number Weights = 82
clock_number UnknownSession = 83
clock_number Size = 84
clock_number TooMuchOwed = 85
clock_number TicksPastEnd = 86

-- the link's own refusal that is nearest to it; in no history does a link meet one
abbrev pub nearest : ClockRefusal → Refusal
nearest Sessions = TooManySessions
nearest Weights = TooMuchWeight
nearest UnknownSession = link.UnknownSession
nearest Size = TooLong
nearest TooMuchOwed = TooManyUnsettled
nearest TicksPastEnd = PastTheEnd
