-- The law of every run, in the words of what happened. Assumes nothing.
use Rattle.std.specs.Prelude.{◌≡◌, ℕ, ◌+◌, ◌-◌, ◌*◌, ◌/◌, ◌<◌, ◌≤◌, List, ◌++◌, Ok, ◌==◌, slice_index, Some, None}
use Rattle.tick_machine.specs.declared.call.Call.{Call}
use Rattle.tick_machine.specs.Lists.{total, only, All}
use Rattle.tick_machine.specs.Slots.{owner, round_length}
use Rattle.tick_machine.specs.Sender.{Packet, Departed, Sending, Line, free, Sender}
use Rattle.tick_machine.specs.Machine.{Config}
use Rattle.tick_machine.specs.Life.{Event, made, drafted, events}
use Rattle.tick_machine.specs.Story.{Served, Arrival, Story, story}

-- P holds of the packet on the line, if there is one
pub data On (P : Packet → Type 0) : Line → Type 0 where
  idle : On P free
  busy : {s : Sending} → P s.packet → On P (Some s)

-- P holds of every unsent packet: on the line or waiting
pub record Unsent (P : Packet → Type 0) (s : Sender) : Type 0 where
  pub on : On P s.line
  pub waits : All P s.waiting

-- P holds of each packet that has left and its leaving tick, and of each that is still unsent and the clock
pub record Ever (y : Story) (P : Packet → ℕ → Type 0) : Type 0 where
  pub gone : All (λ (d : Departed). P d.packet d.left) y.gone
  pub unsent : Unsent (λ (p : Packet). P p y.machine.clock) y.machine.sender

-- (i) no packet leaves, or is still unsent, Lmax ticks or more after the round server served its last byte, which is the slot of its stamp
abbrev pub Prompt : Story → Type 0
Prompt y = Ever y (λ p t. All (λ (b : Served). b.slot ≡ p.stamp → t < b.at + y.longest) y.served)

-- the bytes of session i that the round server has served
abbrev pub served_of : List ℕ → ℕ → Story → ℕ
served_of ws i y = total (λ (b : Served). only (owner ws b.slot == i) 1) y.served

-- the bytes of session i that the line has sent: those of the packets that have left, and those of the packet on the line
abbrev pub sent_on : ℕ → Line → ℕ
sent_on i None = 0
sent_on i (Some s) = only (s.packet.session == i) (s.packet.size - s.rest)

abbrev pub sent_of : ℕ → Story → ℕ
sent_of i y = sent_on i y.machine.sender.line + total (λ (d : Departed). only (d.packet.session == i) d.packet.size) y.gone

-- (ii) from the first acceptance on, the bytes served minus the bytes sent of each session are below Lmax
abbrev pub Level : Config → Story → Type 0
Level c y = 0 < y.longest → (i : ℕ) → served_of c.weights i y < sent_of i y + y.longest

-- (iii) no packet leaves, or is still unsent, after its latest tick
abbrev pub Timely : Story → Type 0
Timely y = Ever y (λ p t. t ≤ p.latest)

-- n over d, rounded up
abbrev pub quotient_up : ℕ → ℕ → ℕ
quotient_up n d = (n + (d - 1)) / d

-- and that tick lies at most ⌈B/φ⌉ × Φ + M − 1 past its arrival, with B the bytes that the round server owed its session right after it
abbrev pub Bounded : Config → Arrival → Type 0
Bounded c a = a.packet.latest ≤ a.at + quotient_up a.owed (slice_index c.weights a.packet.session) * round_length c.weights + (c.largest - 1)

-- the law, at one moment
pub record Law (c : Config) (y : Story) : Type 0 where
  pub prompt : Prompt y
  pub level : Level c y
  pub timely : Timely y
  pub bounded : All (Bounded c) y.arrivals

-- a link's configuration: an accepted making, then any addings, refused ones included
pub record Drafted (c : Config) : Type 0 where
  pub link : ℕ
  pub largest : ℕ
  pub capacity : ℕ
  pub weight : ℕ
  pub addings : List ℕ
  pub first : Config
  pub making : made link largest capacity weight ≡ Ok first
  pub is : drafted first addings ≡ c

-- P holds at every moment of what happened by these calls (the latest first): after every acceptance, every tick, also within a move, and every
-- settlement
abbrev pub Throughout : (Config → Story → Type 0) → Config → List Call → Type 0
Throughout P c calls = (later earlier : List Event) → later ++ earlier ≡ events c calls → P c (story c earlier)

-- P holds at every moment of every history: a making, any addings, the opening, and any list of calls after it, refused ones included
abbrev pub InEveryHistory : (Config → Story → Type 0) → Type 0
InEveryHistory P = (c : Config) → Drafted c → (calls : List Call) → Throughout P c calls

abbrev pub Lawful : Config → List Call → Type 0
Lawful c calls = Throughout Law c calls
