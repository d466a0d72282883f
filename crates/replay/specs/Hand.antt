-- An open link together with the slips in hand, those that it handed out and that are not settled. Assumes nothing.
use Rattle.std.specs.Prelude.{◌≡◌, ℕ, true, List, ◌∷◌, ◌++◌, reverse, Err}
use Rattle.waiting_line.specs.declared.line.WaitingLine.{Ghosts as WaitingLine}
use Rattle.slot_clock.specs.declared.clock.SlotClock.{Ghosts as SlotClock}
use Rattle.tick_machine.specs.declared.refusal.Refusal.{Refusal}
use Rattle.tick_machine.specs.declared.call.Call.{Call}
use Rattle.tick_machine.specs.declared.call.Answer.{Answer}
use Rattle.tick_machine.specs.Desk.{among, without}
use Rattle.tick_machine.specs.Machine.{Config, Machine}
use Rattle.tick_machine.specs.Life.{drafted, settlement, answer, after, answers}
use Rattle.link.specs.declared.draft.Draft.{Draft}
use Rattle.link.specs.declared.link.Link.{Link}
use Rattle.link.specs.declared.slip.Slip.{Slip}
use Rattle.link.specs.Promise.{Led}
use Rattle.link.specs.Drafting.{Drafts}
use Rattle.replay.specs.History.{adding_answers, packets, OfLink}

-- a link and the slips in hand
pub record InHand (W S : Type 0) : Type 0 where
  pub link : Link W S
  pub slips : List Slip

-- the slip of that link number and packet number was taken from those in hand of the link `own`, and the others stay in their order
pub record Taken (own number packet : ℕ) (slips : List Slip) (s : Slip) (slips' : List Slip) : Type 0 where
  pub here : number ≡ own
  pub packet_is : s.says.packet ≡ packet
  pub there : among packet (packets slips) ≡ true
  pub rest : packets slips' ≡ without packet (packets slips)
  pub link_is : (n : ℕ) → OfLink n slips → s.says.link ≡ n
  pub rest_own : (n : ℕ) → OfLink n slips → OfLink n slips'

-- there is none: a machine with exactly those packets out refuses the settlement so; and the slips in hand stay
pub record Missing (own number packet : ℕ) (slips : List Slip) (e : Refusal) (slips' : List Slip) : Type 0 where
  pub refused : (c : Config) (m : Machine) → c.link ≡ own → packets slips ≡ m.desk.out → settlement c number packet m ≡ Err e
  pub same : slips' ≡ slips

module _ {W S : Type 0} (line : WaitingLine W) (clock : SlotClock S) where
  -- these calls, the latest first, led to this link, and the slips in hand are those of the packets out
  pub record Held (c : Config) (calls : List Call) (d : InHand W S) : Type 0 where
    pub led : Led line clock c calls d.link
    pub out : packets d.slips ≡ (after c calls).desk.out
    pub own : OfLink c.link d.slips

  -- a call after those calls: it leads to this link with these slips in hand, and is answered as the tick machine answers it
  pub record Answered (c : Config) (calls : List Call) (call : Call) (said : Answer) (d : InHand W S) : Type 0 where
    pub held : Held c (call ∷ calls) d
    pub told : said ≡ answer c (after c calls) call

  -- some history led here
  abbrev pub Reached : InHand W S → Type 0
  Reached d = (c : Config) × ((calls : List Call) × Held c calls d)

  -- whatever history led to the link and the slips of d, the call after it is answered so
  abbrev pub Answers : InHand W S → Call → Answer → InHand W S → Type 0
  Answers d call said d' = (c : Config) (calls : List Call) → Held c calls d → Answered c calls call said d'

  -- calls that were made one after the other on a link just opened: the link and the slips after them, and their answers after those before
  pub record Called (c : Config) (calls : List Call) (before : List Answer) (d : InHand W S) (said : List Answer) : Type 0 where
    pub held : Held c (reverse calls) d
    pub told : said ≡ before ++ answers c (reverse calls)

-- addings that were made one after the other on a draft: the draft after them, and their answers after those before
pub record AddedAll {W : Type 0} (line : WaitingLine W) (c : Config) (addings : List ℕ) (before : List Answer) (d : Draft W) (said : List Answer) : Type 0 where
  pub drafts : Drafts line (drafted c addings) d
  pub told : said ≡ before ++ adding_answers c addings
