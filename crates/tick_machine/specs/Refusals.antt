-- The numbers by which refusals are told: the one definition that prints and promises use. Assumes nothing.
use Rattle.std.specs.Prelude.{ℕ, List, [], ◌∷◌, Some, None, Option}
use Rattle.tick_machine.specs.declared.refusal.LineRefusal.{LineRefusal}
use Rattle.tick_machine.specs.declared.refusal.LineRefusal.TheVariants.{Full, Twice}
use Rattle.tick_machine.specs.declared.refusal.Refusal.{Refusal}
use Rattle.tick_machine.specs.declared.refusal.Refusal.TheVariants.{LinkNumber, Largest, Capacity, FirstWeight, Weight, TooManySessions, TooMuchWeight, UnknownSession, Empty, TooLong, NoRoom, TooManyUnsettled, TickPassed, PastTheEnd, OtherLink, NotOut}

-- a waiting line's refusal
abbrev pub line_number : LineRefusal → ℕ
line_number Full = 71
line_number Twice = 72

-- a link's own number
abbrev pub outer : Refusal → ℕ
outer LinkNumber = 11
outer Largest = 12
outer Capacity = 13
outer FirstWeight = 14
outer Weight = 21
outer TooManySessions = 22
outer TooMuchWeight = 23
outer UnknownSession = 31
outer Empty = 32
outer TooLong = 33
outer (NoRoom e) = 34
outer TooManyUnsettled = 35
outer TickPassed = 41
outer PastTheEnd = 42
outer OtherLink = 52
outer NotOut = 53

-- the refusal from below that it carries
abbrev pub inner : Refusal → Option LineRefusal
inner LinkNumber = None
inner Largest = None
inner Capacity = None
inner FirstWeight = None
inner Weight = None
inner TooManySessions = None
inner TooMuchWeight = None
inner UnknownSession = None
inner Empty = None
inner TooLong = None
inner (NoRoom e) = Some e
inner TooManyUnsettled = None
inner TickPassed = None
inner PastTheEnd = None
inner OtherLink = None
inner NotOut = None

abbrev pub inner_numbers : Option LineRefusal → List ℕ
inner_numbers None = []
inner_numbers (Some e) = line_number e ∷ []

-- all that is told of a refusal, the outermost first
abbrev pub numbers : Refusal → List ℕ
numbers r = outer r ∷ inner_numbers (inner r)
