-- The answers of a whole history, and what is promised of one that was played. Assumes nothing.
use Rattle.std.specs.Prelude.{◌≡◌, ℕ, List, [], ◌∷◌, ◌++◌, map, reverse, Ok, Err, Result}
use Rattle.tick_machine.specs.declared.refusal.Refusal.{Refusal}
use Rattle.tick_machine.specs.declared.call.Call.{Call}
use Rattle.tick_machine.specs.declared.call.Answer.{Answer}
use Rattle.tick_machine.specs.declared.call.Answer.TheVariants.{Made, Added, Opened, Refused}
use Rattle.tick_machine.specs.Lists.{All}
use Rattle.tick_machine.specs.Slots.{round_length}
use Rattle.tick_machine.specs.Machine.{Config}
use Rattle.tick_machine.specs.Life.{adding, added, drafted, told, after, answers, making_of}
use Rattle.tick_machine.specs.Law.{Lawful}
use Rattle.link.specs.declared.slip.Slip.{Slip}
use Rattle.tick_machine.specs.declared.call.Making.{Making}

-- the answers to addings, the first first: each adds to what the ones before it have made of the draft
abbrev pub adding_answers : Config → List ℕ → List Answer
adding_answers c [] = []
adding_answers c (w ∷ ws) = told Added (adding c w) ∷ adding_answers (added c w) ws

-- the answers of a link that was made: its number; those to the addings; the number of slots in a round; those to the calls
abbrev pub life_answers : Config → List ℕ → List Call → List Answer
life_answers c addings calls =
    Made c.link ∷ (adding_answers c addings ++ Opened (round_length (drafted c addings).weights) ∷ answers (drafted c addings) (reverse calls))

-- the answers of a whole history, the first first: a refused making is answered, and then nothing more
abbrev pub history_answers : Result Config Refusal → List ℕ → List Call → List Answer
history_answers (Ok c) addings calls = life_answers c addings calls
history_answers (Err e) addings calls = Refused e ∷ []

-- the numbers of the packets that slips are of
abbrev pub packets : List Slip → List ℕ
packets slips = map (λ s. s.says.packet) slips

-- each slip is one of the link of this number
abbrev pub OfLink : ℕ → List Slip → Type 0
OfLink number slips = All (λ s. s.says.link ≡ number) slips

-- what is promised of a link that was made: its answers are the tick machine's; the law holds throughout; the slips left over are those of the
-- packets that are out at the end, in their order, and say the link's number
pub record Lives (c : Config) (addings : List ℕ) (calls : List Call) (said : List Answer) (slips : List Slip) : Type 0 where
  pub told : said ≡ life_answers c addings calls
  pub lawful : Lawful (drafted c addings) (reverse calls)
  pub out : packets slips ≡ (after (drafted c addings) (reverse calls)).desk.out
  pub own : OfLink c.link slips

-- what is promised of a history that was played: its answers are the tick machine's; the law holds throughout, where there is a link; the slips
-- handed back are those of the packets that are out at the end, in their order, and say the link's number; a refused making gives no slip
pub record Plays (making : Making) (addings : List ℕ) (calls : List Call) (said : List Answer) (slips : List Slip) : Type 0 where
  pub told : said ≡ history_answers (making_of making) addings calls
  pub lawful : (c : Config) → making_of making ≡ Ok c → Lawful (drafted c addings) (reverse calls)
  pub out : (c : Config) → making_of making ≡ Ok c → packets slips ≡ (after (drafted c addings) (reverse calls)).desk.out
  pub own : OfLink making.number slips
  pub none : (e : Refusal) → making_of making ≡ Err e → slips ≡ []
