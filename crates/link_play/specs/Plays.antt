-- What a step does at a link that some history led to. Assumes nothing.
use Rattle.std.specs.Prelude.{◌≡◌, ℕ, List, [], ◌∷◌, ◌++◌, Some, None, Ok, Err, Option, Result}
use Rattle.waiting_line.specs.declared.line.WaitingLine.{Ghosts as WaitingLine}
use Rattle.slot_clock.specs.declared.clock.SlotClock.{Ghosts as SlotClock}
use Rattle.tick_machine.specs.declared.packet.SlipCopy.{SlipCopy}
use Rattle.tick_machine.specs.declared.call.Call.{Call}
use Rattle.tick_machine.specs.declared.call.Call.TheVariants.{Arrive, MoveTo, Collect, File, Return, AskFigures, AskTotals}
use Rattle.tick_machine.specs.declared.call.Settlement.{Settlement}
use Rattle.tick_machine.specs.declared.refusal.Refusal.{Refusal}
use Rattle.tick_machine.specs.declared.call.Answer.{Answer}
use Rattle.tick_machine.specs.declared.call.Answer.TheVariants.{Made, Opened, Collected, Refused}
use Rattle.tick_machine.specs.Slots.{round_length}
use Rattle.tick_machine.specs.Desk.{first}
use Rattle.tick_machine.specs.Machine.{Config, Machine}
use Rattle.tick_machine.specs.Life.{after, answer, slip_of, settling, drafted}
use Rattle.link.specs.declared.link.Link.{Link}
use Rattle.link.specs.Promise.{Led}
use Rattle.replay.specs.History.{adding_answers}
use Rattle.link_play.specs.declared.step.Step.{Step}
use Rattle.link_play.specs.declared.step.Step.TheVariants as step

-- what the slip would say that a collection would hand out
abbrev pub next_slip : Config → Machine → Option SlipCopy
next_slip c m = slip_of c.link (first m.desk.left)

-- the calls, the latest first, that take a slip and settle it so
abbrev pub spending : (ℕ → ℕ → Call) → Option SlipCopy → List Call
spending settle None = Collect ∷ []
spending settle (Some s) = settle s.link s.packet ∷ Collect ∷ []

-- the call whose answer a step gives
abbrev pub asked : Step → Call
asked (step.Arrive i n tag) = Arrive i n tag
asked (step.MoveTo t) = MoveTo t
asked step.TakeAndFile = Collect
asked step.TakeAndReturn = Collect
asked (step.AskFigures i) = AskFigures i
asked step.AskTotals = AskTotals

-- the calls that a step makes, the latest first
abbrev pub calls_of : Config → Machine → Step → List Call
calls_of c m (step.Arrive i n tag) = Arrive i n tag ∷ []
calls_of c m (step.MoveTo t) = MoveTo t ∷ []
calls_of c m step.TakeAndFile = spending File (next_slip c m)
calls_of c m step.TakeAndReturn = spending Return (next_slip c m)
calls_of c m (step.AskFigures i) = AskFigures i ∷ []
calls_of c m step.AskTotals = AskTotals ∷ []

-- what these steps are answered after those calls
abbrev pub replies : Config → List Call → List Step → List Answer
replies c calls [] = []
replies c calls (s ∷ ss) = answer c (after c calls) (asked s) ∷ replies c (calls_of c (after c calls) s ++ calls) ss

-- what the addings, the opening and the steps are answered
abbrev pub draft_replies : Config → List ℕ → List Step → List Answer
draft_replies c ws steps = adding_answers c ws ++ Opened (round_length (drafted c ws).weights) ∷ replies (drafted c ws) [] steps

-- what a whole history is answered, from the making of a link of that number on
abbrev pub history_replies : ℕ → Result Config Refusal → List ℕ → List Step → List Answer
history_replies number (Ok c) ws steps = Made number ∷ draft_replies c ws steps
history_replies number (Err e) ws steps = Refused e ∷ []

module _ {W S : Type 0} (line : WaitingLine W) (clock : SlotClock S) where
  -- some history led to the link
  pub record Reached (l : Link W S) : Type 0 where
    pub config : Config
    pub calls : List Call
    pub led : Led line clock config calls l

  -- after those calls, the next slip was taken and settled so, or none was there
  pub record Spent (how : Settlement) (c : Config) (calls : List Call) (said : Answer) (l' : Link W S) : Type 0 where
    pub told : said ≡ Collected (next_slip c (after c calls))
    pub led : Led line clock c (spending (settling how) (next_slip c (after c calls)) ++ calls) l'

  abbrev pub Spends : Settlement → Link W S → Answer → Link W S → Type 0
  Spends how l said l' = (c : Config) (calls : List Call) → Led line clock c calls l → Spent how c calls said l'

  -- after those calls, a step was answered as the tick machine answers it, and its calls led on
  pub record Played (step : Step) (c : Config) (calls : List Call) (said : Answer) (l' : Link W S) : Type 0 where
    pub told : said ≡ answer c (after c calls) (asked step)
    pub led : Led line clock c (calls_of c (after c calls) step ++ calls) l'

  abbrev pub Plays : Step → Link W S → Answer → Link W S → Type 0
  Plays step l said l' = (c : Config) (calls : List Call) → Led line clock c calls l → Played step c calls said l'

  -- some steps were played: the calls that led here, and what is still to be answered for the others
  pub record Playing (c : Config) (calls : List Call) (steps : List Step) (before : List Answer) (rest : List Step) (behind : List Answer) (l : Link W S) : Type 0 where
    pub since : List Call
    pub led : Led line clock c since l
    pub tells : behind ++ replies c since rest ≡ before ++ replies c calls steps

  -- all steps were played
  abbrev pub Answered : Link W S → List Step → List Answer → List Answer → Type 0
  Answered l steps before behind = (c : Config) (calls : List Call) → Led line clock c calls l → behind ≡ before ++ replies c calls steps
