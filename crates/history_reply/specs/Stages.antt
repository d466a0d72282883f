-- Where a history stands, and what a command does there. Assumes nothing.
use Rattle.std.specs.Prelude.{ℕ, Some, None, Ok, Err, Option, Result}
use Rattle.tick_machine.specs.declared.packet.SlipCopy.{SlipCopy}
use Rattle.tick_machine.specs.declared.refusal.Refusal.{Refusal}
use Rattle.tick_machine.specs.declared.call.Call.{Call}
use Rattle.tick_machine.specs.declared.call.Call.TheVariants as call
use Rattle.tick_machine.specs.declared.call.Answer.{Answer}
use Rattle.tick_machine.specs.declared.call.Answer.TheVariants.{Made, Added, Opened, Accepted, Moved, Collected, Filed, Returned, FiguresAre, TotalsAre, Refused}
use Rattle.tick_machine.specs.Slots.{round_length}
use Rattle.tick_machine.specs.Machine.{Config, Machine, opened}
use Rattle.tick_machine.specs.Life.{made, adding, added, settling as settled_by, told, respond}
use Rattle.history_text.specs.declared.commands.Phase.{Phase}
use Rattle.history_text.specs.declared.commands.Phase.TheVariants as phase
use Rattle.history_text.specs.declared.commands.Command.{Command}
use Rattle.history_text.specs.declared.commands.Command.TheVariants as command
use Rattle.history_text.specs.declared.faults.Cause.TheVariants.{Untimely}
use Rattle.history_reply.specs.declared.replies.Reply.{Reply}
use Rattle.history_reply.specs.declared.replies.Reply.TheVariants as reply

-- before an accepted `link`; at a draft; at an open link, with the slip in hand, if there is one
pub data Stage : Type 0 where
  before : Stage
  draft : Config → Stage
  running : Config → Machine → Option SlipCopy → Stage

abbrev pub holding : Option SlipCopy → Phase
holding None = phase.Open
holding (Some s) = phase.Holding

abbrev pub phase_of : Stage → Phase
phase_of before = phase.Before
phase_of (draft c) = phase.Draft
phase_of (running c m hand) = holding hand

-- what is replied, and the stage after it
pub record Turn : Type 0 where
  pub says : Reply
  pub next : Stage

-- a word out of turn on line n changes nothing; the reader of lines lets no such command through
abbrev pub untimely : ℕ → Stage → Turn
untimely n s = record { says = reply.Fault n (record { cause = Untimely; byte = 1 }); next = s }

-- an accepted `link` makes a draft
abbrev pub making : Result Config Refusal → Turn
making (Ok c) = record { says = reply.Answer (Made c.link); next = draft c }
making (Err e) = record { says = reply.Answer (Refused e); next = before }

abbrev pub at_start : ℕ → Command → Turn
at_start n (command.Make m) = making (made m.number m.largest m.capacity m.weight)
at_start n (command.Add weight) = untimely n before
at_start n command.Open = untimely n before
at_start n (command.Arrive i size tag) = untimely n before
at_start n (command.MoveTo t) = untimely n before
at_start n (command.AskFigures i) = untimely n before
at_start n command.AskTotals = untimely n before
at_start n command.Take = untimely n before
at_start n (command.Settle how) = untimely n before

abbrev pub at_draft : ℕ → Config → Command → Turn
at_draft n c (command.Make m) = untimely n (draft c)
at_draft n c (command.Add weight) = record { says = reply.Answer (told Added (adding c weight)); next = draft (added c weight) }
at_draft n c command.Open = record { says = reply.Answer (Opened (round_length c.weights)); next = running c (opened c) None }
at_draft n c (command.Arrive i size tag) = untimely n (draft c)
at_draft n c (command.MoveTo t) = untimely n (draft c)
at_draft n c (command.AskFigures i) = untimely n (draft c)
at_draft n c command.AskTotals = untimely n (draft c)
at_draft n c command.Take = untimely n (draft c)
at_draft n c (command.Settle how) = untimely n (draft c)

-- a call of the open link, after which this is in hand
abbrev pub calling : Config → Machine → Option SlipCopy → Call → Turn
calling c m hand x = record { says = reply.Answer (respond c m x).1; next = running c (respond c m x).0 hand }

-- the slip that an answer hands out
abbrev pub slip_in : Answer → Option SlipCopy
slip_in (Made link) = None
slip_in (Added session) = None
slip_in (Opened round) = None
slip_in (Accepted number stamp latest) = None
slip_in (Moved clock left) = None
slip_in (Collected o) = o
slip_in (Filed number) = None
slip_in (Returned number) = None
slip_in (FiguresAre f) = None
slip_in (TotalsAre t) = None
slip_in (Refused e) = None

-- a refused settlement keeps the slip in hand, a granted one does not
abbrev pub kept : SlipCopy → Answer → Option SlipCopy
kept s (Made link) = None
kept s (Added session) = None
kept s (Opened round) = None
kept s (Accepted number stamp latest) = None
kept s (Moved clock left) = None
kept s (Collected o) = None
kept s (Filed number) = None
kept s (Returned number) = None
kept s (FiguresAre f) = None
kept s (TotalsAre t) = None
kept s (Refused e) = Some s

abbrev pub taking : ℕ → Config → Machine → Option SlipCopy → Turn
taking n c m None = calling c m (slip_in (respond c m call.Collect).1) call.Collect
taking n c m (Some s) = untimely n (running c m (Some s))

abbrev pub settling : (ℕ → ℕ → Call) → ℕ → Config → Machine → Option SlipCopy → Turn
settling way n c m None = untimely n (running c m None)
settling way n c m (Some s) = calling c m (kept s (respond c m (way s.link s.packet)).1) (way s.link s.packet)

abbrev pub at_link : ℕ → Config → Machine → Option SlipCopy → Command → Turn
at_link n c m hand (command.Make x) = untimely n (running c m hand)
at_link n c m hand (command.Add weight) = untimely n (running c m hand)
at_link n c m hand command.Open = untimely n (running c m hand)
at_link n c m hand (command.Arrive i size tag) = calling c m hand (call.Arrive i size tag)
at_link n c m hand (command.MoveTo t) = calling c m hand (call.MoveTo t)
at_link n c m hand (command.AskFigures i) = calling c m hand (call.AskFigures i)
at_link n c m hand command.AskTotals = calling c m hand call.AskTotals
at_link n c m hand command.Take = taking n c m hand
at_link n c m hand (command.Settle how) = settling (settled_by how) n c m hand

-- what the command of line n does at a stage
abbrev pub obey : ℕ → Stage → Command → Turn
obey n before x = at_start n x
obey n (draft c) x = at_draft n c x
obey n (running c m hand) x = at_link n c m hand x
