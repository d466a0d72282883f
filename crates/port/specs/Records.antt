-- What the records that cross to C mean: the one definition of their kinds and of the places of their numbers. Assumes nothing.
use Rattle.std.specs.Prelude.{◌≡◌, ℕ, cond, [], ◌∷◌, pos, Some, None, Ok, Err, Option, Result, ◌==◌}
use Rattle.tick_machine.specs.declared.packet.SlipCopy.{SlipCopy}
use Rattle.tick_machine.specs.declared.refusal.LineRefusal.{LineRefusal}
use Rattle.tick_machine.specs.declared.refusal.Refusal.{Refusal}
use Rattle.tick_machine.specs.declared.call.Call.{Call}
use Rattle.tick_machine.specs.declared.call.Call.TheVariants.{Arrive, MoveTo, Collect, File, Return, AskFigures, AskTotals}
use Rattle.tick_machine.specs.declared.call.Answer.{Answer}
use Rattle.tick_machine.specs.declared.call.Answer.TheVariants.{Made, Added, Opened, Accepted, Moved, Collected, Filed, Returned, FiguresAre, TotalsAre, Refused}
use Rattle.tick_machine.specs.Refusals.{line_number, outer, inner}
use Rattle.port.specs.declared.records.CallRecord.{CallRecord}
use Rattle.port.specs.declared.records.AnswerRecord.{AnswerRecord}
use Rattle.port.specs.declared.reading.UnknownKind.{UnknownKind}

-- the call that a record is; a kind over 7, or 0, is none
abbrev pub call_in : CallRecord → Option Call
call_in r =
    cond (r.kind == 1) (Some (Arrive r.a r.b r.c))
    (cond (r.kind == 2) (Some (MoveTo r.a))
    (cond (r.kind == 3) (Some Collect)
    (cond (r.kind == 4) (Some (File r.a r.b))
    (cond (r.kind == 5) (Some (Return r.a r.b))
    (cond (r.kind == 6) (Some (AskFigures r.a))
    (cond (r.kind == 7) (Some AskTotals)
    None))))))

-- what is read of a record: its call, or that its kind is unknown
abbrev pub Reads : CallRecord → Result Call UnknownKind → Type 0
Reads r (Ok call) = call_in r ≡ Some call
Reads r (Err e) = (call_in r ≡ None) × (e.kind ≡ r.kind)

-- a record with no lead
abbrev pub plain : ℕ → ℕ → ℕ → ℕ → ℕ → ℕ → ℕ → ℕ → AnswerRecord
plain kind a b c d e f g = record { kind = kind; lead = pos 0; values = a ∷ b ∷ c ∷ d ∷ e ∷ f ∷ g ∷ [] }

-- no call has the kind that was asked for: nothing was done
abbrev pub no_call : AnswerRecord
no_call = plain 0 0 0 0 0 0 0 0

-- there is no memory for a link
abbrev pub no_memory : AnswerRecord
no_memory = plain 11 0 0 0 0 0 0 0

-- a slip: link, packet, session, length, tag, starting and leaving tick
abbrev pub slip_record : SlipCopy → AnswerRecord
slip_record s = plain 3 s.link s.packet s.session s.size s.tag s.started s.left

-- the number of the refusal from below, or 0
abbrev pub below : Option LineRefusal → ℕ
below None = 0
below (Some e) = line_number e

abbrev pub refusal_record : Refusal → AnswerRecord
refusal_record e = plain 9 (outer e) (below (inner e)) 0 0 0 0 0

-- each answer as a record
abbrev pub record_of : Answer → AnswerRecord
record_of (Accepted number stamp latest) = plain 1 number stamp latest 0 0 0 0
record_of (Moved clock left) = plain 2 clock left 0 0 0 0 0
record_of (Collected (Some slip)) = slip_record slip
record_of (Collected None) = plain 8 0 0 0 0 0 0 0
record_of (Filed number) = plain 4 number 0 0 0 0 0 0
record_of (Returned number) = plain 5 number 0 0 0 0 0 0
record_of (FiguresAre f) = record { kind = 6; lead = f.lead; values = f.accepted ∷ f.sent ∷ f.served ∷ f.waiting ∷ 0 ∷ 0 ∷ 0 ∷ [] }
record_of (TotalsAre t) = plain 7 t.waiting t.sending t.left t.out t.filed t.returned 0
record_of (Opened round) = plain 10 round 0 0 0 0 0 0
record_of (Made number) = plain 12 number 0 0 0 0 0 0
record_of (Added session) = plain 13 session 0 0 0 0 0 0
record_of (Refused e) = refusal_record e
