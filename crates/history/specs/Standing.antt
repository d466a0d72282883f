-- Where the clerk of a link stands. Assumes nothing.
use Rattle.std.specs.Prelude.{◌≡◌, List, Some, None, Ok, Option}
use Rattle.std.specs.Option.{option_map}
use Rattle.tick_machine.specs.declared.packet.SlipCopy.{SlipCopy}
use Rattle.tick_machine.specs.declared.call.Call.{Call}
use Rattle.tick_machine.specs.Machine.{Config, Machine}
use Rattle.tick_machine.specs.Life.{after, settlement}
use Rattle.waiting_line.specs.declared.line.WaitingLine.{Ghosts as WaitingLine}
use Rattle.slot_clock.specs.declared.clock.SlotClock.{Ghosts as SlotClock}
use Rattle.link.specs.declared.slip.Slip.{Slip}
use Rattle.link.specs.declared.draft.Draft.{Draft}
use Rattle.link.specs.Promise.{Led}
use Rattle.link.specs.Drafting.{Drafts}
use Rattle.history_reply.specs.declared.replies.Reply.{Reply}
use Rattle.history_reply.specs.Stages.{Stage, before, draft, running, Turn}
use Rattle.history.specs.declared.clerk.OpenLink.{OpenLink}
use Rattle.history.specs.declared.clerk.LinkClerk.{LinkClerk}
use Rattle.history.specs.declared.clerk.LinkClerk.TheVariants as clerk

-- what the slip in hand says, if there is one
abbrev pub copied : Option Slip → Option SlipCopy
copied hand = option_map (λ s. s.says) hand

-- the slip in hand can be settled at the machine
abbrev pub Out : Config → Machine → Option SlipCopy → Type 0
Out c m None = Unit {0}
Out c m (Some s) = settlement c s.link s.packet m ≡ Ok s.packet

-- a turn was taken so
pub record Went {C : Type 0} (stands : Stage → C → Type 0) (t : Turn) (next : C) (reply : Reply) : Type 0 where
  pub replied : reply ≡ t.says
  pub here : stands t.next next

module _ {W S : Type 0} (line : WaitingLine W) (clock : SlotClock S) where
  -- the history stands at an open link: calls led to this link, and this slip is in hand
  pub record AtLink (s : Stage) (o : OpenLink W S) : Type 0 where
    pub config : Config
    pub calls : List Call
    pub is : s ≡ running config (after config calls) (copied o.hand)
    pub led : Led line clock config calls o.link
    pub out : Out config (after config calls) (copied o.hand)

  -- the history stands at a draft: a making and some addings led to it
  pub record AtDraft (s : Stage) (d : Draft W) : Type 0 where
    pub config : Config
    pub is : s ≡ draft config
    pub drafts : Drafts line config d

  abbrev pub Stands : Stage → LinkClerk W S → Type 0
  Stands s clerk.Before = s ≡ before
  Stands s (clerk.Drafting d) = AtDraft s d
  Stands s (clerk.Serving o) = AtLink s o
