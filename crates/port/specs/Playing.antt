-- What is promised of a history that was played by records. Assumes nothing.
use Rattle.std.specs.Prelude.{◌≡◌, ℕ, zero, suc, min, List, [], length, take, drop, Ok, Err, Result, ◌≢◌}
use Rattle.std.specs.declared.alloc.AllocError.{AllocError}
use Rattle.tick_machine.specs.declared.refusal.Refusal.{Refusal}
use Rattle.tick_machine.specs.Refusals.{outer}
use Rattle.tick_machine.specs.Machine.{Config}
use Rattle.tick_machine.specs.Law.{Lawful}
use Rattle.link.specs.declared.error.MakeError.{MakeError}
use Rattle.link.specs.declared.error.MakeError.TheVariants.{Refused, NoMemory}
use Rattle.port.specs.declared.records.CallRecord.{CallRecord}
use Rattle.port.specs.declared.records.AnswerRecord.{AnswerRecord}
use Rattle.port.specs.Preparing.{all_added}
use Rattle.port.specs.Turns.{grown_by, replies}

-- as many calls are played as there are calls and places for answers
abbrev pub many : List CallRecord → List AnswerRecord → ℕ
many calls was = min (length calls) (length was)

-- a history that was played: the tick machine's replies stand in the first places, the other places are as they were, and the law holds of it
pub record Played (c : Config) (calls : List CallRecord) (was said : List AnswerRecord) : Type 0 where
  pub told : take (many calls was) said ≡ replies c [] (take (many calls was) calls)
  pub rest : drop (many calls was) said ≡ drop (many calls was) was
  pub lawful : Lawful c (grown_by [] (take (many calls was) calls))

-- it was played, or there was no memory and nothing was written
abbrev pub Plays : Config → List CallRecord → List AnswerRecord → List AnswerRecord → Result (Unit {0}) AllocError → Type 0
Plays c calls was said (Ok u) = Played c calls was said
Plays c calls was said (Err e) = said ≡ was

-- the number that C is told
abbrev pub number_of : Result (Unit {0}) MakeError → ℕ
number_of (Ok u) = 0
number_of (Err (Refused e)) = outer e
number_of (Err (NoMemory e)) = 1

-- what C is told of what was made, once all weights are added: 0 if the history was played; 1 for want of memory, or the number of the refusal of an
-- adding, and then nothing was written
abbrev pub Tells : Result Config Refusal → List CallRecord → List AnswerRecord → List AnswerRecord → ℕ → Type 0
Tells (Ok c) calls was said zero = Played c calls was said
Tells (Ok c) calls was said (suc zero) = said ≡ was
Tells (Ok c) calls was said (suc (suc n)) = ⊥
Tells (Err e) calls was said n = (said ≡ was) × ((n ≢ 1) → n ≡ outer e)

-- what C is told of a making and the weights of further sessions: a refused making is told by its number, whatever memory there is
abbrev pub Reports : Result Config Refusal → List ℕ → List CallRecord → List AnswerRecord → List AnswerRecord → ℕ → Type 0
Reports (Ok c) weights calls was said n = Tells (all_added c weights) calls was said n
Reports (Err e) weights calls was said n = (said ≡ was) × (n ≡ outer e)
