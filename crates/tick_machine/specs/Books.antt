-- What stays true beside the law: the same work, the figures and totals as what happened, numbers held once, and everything small.
-- Assumes nothing.
use Rattle.std.specs.Prelude.{◌≡◌, ℕ, ◌+◌, ◌*◌, ◌<◌, ◌≤◌, List, length, ◌==◌, nat_lt, slice_index, Some, None}
use Rattle.tick_machine.specs.declared.call.Call.{Call}
use Rattle.tick_machine.specs.Lists.{total, only, Rising}
use Rattle.tick_machine.specs.Slots.{round_length}
use Rattle.tick_machine.specs.Round.{owed_to}
use Rattle.tick_machine.specs.Owed.{shown_round}
use Rattle.tick_machine.specs.Sender.{Packet, Departed, Line, Sender}
use Rattle.tick_machine.specs.Machine.{Config, Machine}
use Rattle.tick_machine.specs.Life.{last_tick, on_line, unsettled, events, after}
use Rattle.tick_machine.specs.Story.{Arrival, Story, story}
use Rattle.tick_machine.specs.Law.{Unsent, served_of, sent_of, InEveryHistory}

-- the machine of the story is the machine of the calls
abbrev pub TheStoryTellsTheCalls : Type 0
TheStoryTellsTheCalls = (c : Config) (calls : List Call) → (story c (events c calls)).machine ≡ after c calls

-- the bytes left on the line, and the bytes of the waiting packets
abbrev pub line_bytes : Line → ℕ
line_bytes None = 0
line_bytes (Some s) = s.rest

abbrev pub waiting_bytes : List Packet → ℕ
waiting_bytes ws = total (λ p. p.size) ws

-- the round server owes as many bytes as are unsent
abbrev pub SameWork : Config → Machine → Type 0
SameWork c m = length m.round.owed ≡ line_bytes m.sender.line + waiting_bytes m.sender.waiting

-- the owed slots are exactly the slots from V on that are below their owner's next
abbrev pub OwedByNext : Config → Machine → Type 0
OwedByNext c m = m.round ≡ shown_round c.weights m.round.cursor m.round.next

-- the bytes of session i that were accepted
abbrev pub accepted_of : ℕ → Story → ℕ
accepted_of i y = total (λ (a : Arrival). only (a.packet.session == i) a.packet.size) y.arrivals

-- those that are unsent: left on the line, or waiting
abbrev pub line_rest : ℕ → Line → ℕ
line_rest i None = 0
line_rest i (Some s) = only (s.packet.session == i) s.rest

abbrev pub unsent_of : ℕ → Sender → ℕ
unsent_of i s = line_rest i s.line + total (λ p. only (p.session == i) p.size) s.waiting

-- the figures are what happened
pub record FiguresTold (c : Config) (y : Story) : Type 0 where
  pub accepted : (i : ℕ) → slice_index y.machine.bytes.accepted i ≡ accepted_of i y
  pub sent : (i : ℕ) → slice_index y.machine.bytes.sent i ≡ sent_of i y
  pub served : (i : ℕ) → slice_index y.machine.bytes.served i ≡ served_of c.weights i y

-- there are figures for each session, and they add up: what was accepted is served or owed, and sent or unsent
pub record FiguresAddUp (c : Config) (m : Machine) : Type 0 where
  pub accepted_many : length m.bytes.accepted ≡ length c.weights
  pub sent_many : length m.bytes.sent ≡ length c.weights
  pub served_many : length m.bytes.served ≡ length c.weights
  pub next_many : length m.round.next ≡ length c.weights
  pub served_or_owed : (i : ℕ) → slice_index m.bytes.accepted i ≡ slice_index m.bytes.served i + owed_to c.weights i m.round
  pub sent_or_unsent : (i : ℕ) → slice_index m.bytes.accepted i ≡ slice_index m.bytes.sent i + unsent_of i m.sender

-- every accepted packet is in one place
abbrev pub TotalsAddUp : Config → Machine → Type 0
TotalsAddUp c m =
    length m.sender.waiting + on_line m.sender.line + length m.desk.left + length m.desk.out + m.desk.filed + m.desk.returned ≡ m.count

-- the sum of f over the numbers of the unsettled packets: those that wait, are sent, have left, or are out
abbrev pub over_line : (ℕ → ℕ) → Line → ℕ
over_line f None = 0
over_line f (Some s) = f s.packet.number

abbrev pub over : (ℕ → ℕ) → Machine → ℕ
over f m =
    total (λ (p : Packet). f p.number) m.sender.waiting + over_line f m.sender.line + total (λ (d : Departed). f d.packet.number) m.desk.left
    + total f m.desk.out

-- how many of them have the number k
abbrev pub holds : ℕ → Machine → ℕ
holds k m = over (λ x. only (x == k) 1) m

-- between ticks, a packet on the line has some bytes left and not all
abbrev pub UnderWay : Line → Type 0
UnderWay None = Unit {0}
UnderWay (Some s) = (1 ≤ s.rest) × (s.rest < s.packet.size)

-- an unsent packet is of a session of the link, has a length that may be, and a number that was given
pub record Proper (c : Config) (m : Machine) (p : Packet) : Type 0 where
  pub session : p.session < length c.weights
  pub some : 1 ≤ p.size
  pub short : p.size ≤ c.largest
  pub number : p.number < m.count

-- no number is held twice, and none that was not given; the waiting packets stand in rising order of their stamps; all unsent packets are proper
pub record WellKept (c : Config) (m : Machine) : Type 0 where
  pub once : (k : ℕ) → holds k m ≤ only (nat_lt k m.count) 1
  pub rising : Rising (λ (p : Packet). p.stamp) m.sender.waiting
  pub under_way : UnderWay m.sender.line
  pub proper : Unsent (Proper c m) m.sender

-- all numbers stay small
pub record StaysSmall (c : Config) (m : Machine) : Type 0 where
  pub clock : m.clock ≤ last_tick
  pub count : m.count ≤ m.clock + 1024
  pub cursor : m.round.cursor ≤ m.clock * round_length c.weights
  pub owed : length m.round.owed ≤ 67107840
  pub next : (i : ℕ) → slice_index m.round.next i ≤ m.round.cursor + (length m.round.owed + 1) * round_length c.weights
  pub stamps : Unsent (λ p. p.stamp < slice_index m.round.next p.session) m.sender
  pub waiting : length m.sender.waiting ≤ c.capacity
  pub unsettled : unsettled m ≤ 1024
  pub accepted : (i : ℕ) → slice_index m.bytes.accepted i ≤ m.clock + 67107840
  pub sent : (i : ℕ) → slice_index m.bytes.sent i ≤ m.clock
  pub served : (i : ℕ) → slice_index m.bytes.served i ≤ m.clock
  -- so every slot that a session ever got is below 2 to the 57th
  pub cursor_limit : m.round.cursor ≤ 72057594037927936
  pub next_limit : (i : ℕ) → slice_index m.round.next i < 144115188075855872

-- P holds of the machine at every moment of every history
abbrev pub OfEveryMachine : (Config → Machine → Type 0) → Type 0
OfEveryMachine P = InEveryHistory (λ c y. P c y.machine)
