-- Calls that come as records, one after the other on an open link. Assumes nothing.
use Rattle.std.specs.Prelude.{◌≡◌, ℕ, List, [], ◌∷◌, take, drop, Some, None, Option}
use Rattle.waiting_line.specs.declared.line.WaitingLine.{Ghosts as WaitingLine}
use Rattle.slot_clock.specs.declared.clock.SlotClock.{Ghosts as SlotClock}
use Rattle.tick_machine.specs.declared.call.Call.{Call}
use Rattle.tick_machine.specs.Machine.{Config}
use Rattle.tick_machine.specs.Life.{answer, after}
use Rattle.replay.specs.Hand.{InHand, Held}
use Rattle.port.specs.declared.records.CallRecord.{CallRecord}
use Rattle.port.specs.declared.records.AnswerRecord.{AnswerRecord}
use Rattle.port.specs.Records.{call_in, no_call, record_of}

-- the calls so far, the latest first, with one more; what is no call adds none
abbrev pub grown : List Call → Option Call → List Call
grown done None = done
grown done (Some x) = x ∷ done

-- the calls so far and those of the records, the first record first
abbrev pub grown_by : List Call → List CallRecord → List Call
grown_by done [] = done
grown_by done (r ∷ rs) = grown_by (grown done (call_in r)) rs

-- what is replied after those calls: what the tick machine answers, as a record
abbrev pub reply : Config → List Call → Option Call → AnswerRecord
reply c done None = no_call
reply c done (Some x) = record_of (answer c (after c done) x)

-- the replies to the records, the first first
abbrev pub replies : Config → List Call → List CallRecord → List AnswerRecord
replies c done [] = []
replies c done (r ∷ rs) = reply c done (call_in r) ∷ replies c (grown done (call_in r)) rs

module _ {W S : Type 0} (line : WaitingLine W) (clock : SlotClock S) where
  -- a record after those calls: the reply, and the link and the slips in hand after it
  pub record Turned (c : Config) (done : List Call) (r : CallRecord) (said : AnswerRecord) (d : InHand W S) : Type 0 where
    pub held : Held line clock c (grown done (call_in r)) d
    pub told : said ≡ reply c done (call_in r)

  -- whatever history led to the link with those slips
  abbrev pub Turns : InHand W S → CallRecord → AnswerRecord → InHand W S → Type 0
  Turns d r said d' = (c : Config) (done : List Call) → Held line clock c done d → Turned c done r said d'

  -- so many records on a link just opened: their replies stand in the first places, and the other places are as they were
  pub record TurnedAll (c : Config) (n : ℕ) (rs : List CallRecord) (was said : List AnswerRecord) (d : InHand W S) : Type 0 where
    pub held : Held line clock c (grown_by [] (take n rs)) d
    pub told : take n said ≡ replies c [] (take n rs)
    pub rest : drop n said ≡ drop n was
