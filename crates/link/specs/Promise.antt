-- What the public calls of a link promise, for every history that led to it. Assumes nothing.
use Rattle.std.specs.Prelude.{◌≡◌, ℕ, ◌<◌, Bool, true, false, List, ◌∷◌, pos, ◌+ℤ◌, ◌<ℤ◌, Ok, Err, Option, Result}
use Rattle.std.specs.Option.{option_map}
use Rattle.waiting_line.specs.declared.line.WaitingLine.{Ghosts as WaitingLine}
use Rattle.slot_clock.specs.declared.clock.SlotClock.{Ghosts as SlotClock}
use Rattle.tick_machine.specs.declared.refusal.Refusal.{Refusal}
use Rattle.tick_machine.specs.declared.call.Call.{Call}
use Rattle.tick_machine.specs.declared.call.Figures.{Figures}
use Rattle.tick_machine.specs.declared.call.Answer.{Answer}
use Rattle.tick_machine.specs.declared.call.Answer.TheVariants.{Made, Added, Opened, Accepted, Moved, Collected, Filed, Returned, FiguresAre, TotalsAre, Refused}
use Rattle.tick_machine.specs.Machine.{Config}
use Rattle.tick_machine.specs.Life.{answer, after, events}
use Rattle.tick_machine.specs.Story.{story}
use Rattle.tick_machine.specs.Law.{Drafted, Lawful}
use Rattle.link.specs.declared.link.Link.{Link}
use Rattle.link.specs.declared.slip.Slip.{Slip}
use Rattle.link.specs.Shown.{Shown}

-- whether an answer is a refusal
abbrev pub is_refused : Answer → Bool
is_refused (Made a) = false
is_refused (Added a) = false
is_refused (Opened a) = false
is_refused (Accepted a b d) = false
is_refused (Moved a b) = false
is_refused (Collected o) = false
is_refused (Filed a) = false
is_refused (Returned a) = false
is_refused (FiguresAre f) = false
is_refused (TotalsAre t) = false
is_refused (Refused e) = true

-- what is said of a collection
abbrev pub collected_as : Option Slip → Answer
collected_as o = Collected (option_map (λ s. s.says) o)

-- the answer to a settlement, which hands the slip back where it is refused
abbrev pub settled : (ℕ → Answer) → Result ℕ (Refusal × Slip) → Answer
settled say (Ok number) = say number
settled say (Err e) = Refused e.0

-- and then it is the same slip
abbrev pub HandedBack : Slip → Result ℕ (Refusal × Slip) → Type 0
HandedBack s (Ok number) = Unit {0}
HandedBack s (Err e) = e.1 ≡ s

-- the longest length accepted by these calls
abbrev pub longest : Config → List Call → ℕ
longest c calls = (story c (events c calls)).longest

module _ {W S : Type 0} (line : WaitingLine W) (clock : SlotClock S) where
  -- these calls, the latest first, led from the opening of a link that was drafted so to this link
  pub record Led (c : Config) (calls : List Call) (l : Link W S) : Type 0 where
    pub drafted : Drafted c
    pub shown : Shown line clock c (after c calls) l

  -- a call after those calls: it leads to this link; it is answered as the tick machine answers it; if it is refused the link is as it was;
  -- and the law holds throughout
  pub record Goes (c : Config) (calls : List Call) (l : Link W S) (call : Call) (said : Answer) (l' : Link W S) : Type 0 where
    pub led : Led c (call ∷ calls) l'
    pub told : said ≡ answer c (after c calls) call
    pub kept : is_refused said ≡ true → l' ≡ l
    pub law : Lawful c (call ∷ calls)

  -- whatever history led to the link l, the call after it goes so
  abbrev pub Keeps : Link W S → Call → Answer → Link W S → Type 0
  Keeps l call said l' = (c : Config) (calls : List Call) → Led c calls l → Goes c calls l call said l'

  -- whatever history led to the link, the lead is above minus the longest length accepted in it, once there was one
  abbrev pub LeadBounded : Link W S → Result Figures Refusal → Type 0
  LeadBounded l (Ok f) = (c : Config) (calls : List Call) → Led c calls l → 0 < longest c calls → pos 0 <ℤ (f.lead +ℤ pos (longest c calls))
  LeadBounded l (Err e) = Unit {0}
