-- The life of a link: making, adding sessions, opening, and the calls after it, with their answers. Checks run in the order written;
-- a refused call changes nothing, and so does a reading. Assumes nothing.
use Rattle.std.specs.Prelude.{ℕ, ◌+◌, ◌-◌, Bool, cond, ◌&&◌, List, [], ◌∷◌, ◌++◌, length, replicate, pos, ◌-ℤ◌, Some, None, Ok, Err, Option, Result, ◌==◌, nat_le, nat_lt, slice_index}
use Rattle.tick_machine.specs.declared.refusal.LineRefusal.TheVariants.{Full}
use Rattle.tick_machine.specs.declared.refusal.Refusal.{Refusal}
use Rattle.tick_machine.specs.declared.refusal.Refusal.TheVariants.{LinkNumber, Largest, Capacity, FirstWeight, Weight, TooManySessions, TooMuchWeight, UnknownSession, Empty, TooLong, NoRoom, TooManyUnsettled, TickPassed, PastTheEnd, OtherLink, NotOut}
use Rattle.tick_machine.specs.declared.call.Making.{Making}
use Rattle.tick_machine.specs.declared.call.Call.{Call}
use Rattle.tick_machine.specs.declared.call.Call.TheVariants.{Arrive, MoveTo, Collect, File, Return, AskFigures, AskTotals}
use Rattle.tick_machine.specs.declared.call.Settlement.{Settlement}
use Rattle.tick_machine.specs.declared.call.Settlement.TheVariants as how
use Rattle.tick_machine.specs.declared.call.Figures.{Figures}
use Rattle.tick_machine.specs.declared.call.Totals.{Totals}
use Rattle.tick_machine.specs.declared.call.Answer.{Answer}
use Rattle.tick_machine.specs.declared.call.Answer.TheVariants.{Accepted, Moved, Collected, Filed, Returned, FiguresAre, TotalsAre, Refused}
use Rattle.tick_machine.specs.Lists.{total, only}
use Rattle.tick_machine.specs.Slots.{round_length}
use Rattle.tick_machine.specs.declared.packet.SlipCopy.{SlipCopy}
use Rattle.tick_machine.specs.Sender.{Departed, Line}
use Rattle.tick_machine.specs.Desk.{first, slip, among, hand_out, file, return}
use Rattle.tick_machine.specs.Round.{stamp}
use Rattle.tick_machine.specs.Machine.{Config, Machine, opened, latest_tick, accept, tick, ticks, with_desk}

-- the last tick of a clock
abbrev pub last_tick : ℕ
last_tick = 17592186044416

-- between 1 and n
abbrev pub within : ℕ → ℕ → Bool
within n x = nat_lt 0 x && nat_le x n

-- MAKING takes a link number, the largest length M, a capacity and the weight of session 0
abbrev pub made : ℕ → ℕ → ℕ → ℕ → Result Config Refusal
made link largest capacity weight =
    cond (nat_le link 65535)
    (cond (within 65535 largest)
    (cond (within 1024 capacity)
    (cond (within 4096 weight)
    (Ok (record { link = link; largest = largest; capacity = capacity; weights = weight ∷ [] }))
    (Err FirstWeight))
    (Err Capacity))
    (Err Largest))
    (Err LinkNumber)

-- the same of its four numbers together
abbrev pub making_of : Making → Result Config Refusal
making_of m = made m.number m.largest m.capacity m.weight

-- ADDING a session takes a weight and answers the session's number
abbrev pub adding : Config → ℕ → Result ℕ Refusal
adding c weight =
    cond (nat_lt 0 weight)
    (cond (nat_lt (length c.weights) 64)
    (cond (nat_le (round_length c.weights + weight) 4096)
    (Ok (length c.weights))
    (Err TooMuchWeight))
    (Err TooManySessions))
    (Err Weight)

abbrev pub with_session : Result ℕ Refusal → ℕ → Config → Config
with_session (Ok i) weight c = record { link = c.link; largest = c.largest; capacity = c.capacity; weights = c.weights ++ weight ∷ [] }
with_session (Err e) weight c = c

abbrev pub added : Config → ℕ → Config
added c weight = with_session (adding c weight) weight c

-- what a draft has become by these addings, refused ones included, the first first
abbrev pub drafted : Config → List ℕ → Config
drafted c [] = c
drafted c (w ∷ ws) = drafted (added c w) ws

-- packets on the line: one or none
abbrev pub on_line : Line → ℕ
on_line None = 0
on_line (Some s) = 1

-- how many packets are unsettled: waiting, sending, left or out
abbrev pub unsettled : Machine → ℕ
unsettled m = length m.sender.waiting + on_line m.sender.line + length m.desk.left + length m.desk.out

-- ARRIVAL answers packet number, stamp and latest tick together
abbrev pub offer : Config → ℕ → ℕ → Machine → ℕ × ℕ × ℕ
offer c i n m = (m.count, stamp c.weights i n m.round, latest_tick c m (stamp c.weights i n m.round))

abbrev pub arrival : Config → ℕ → ℕ → Machine → Result (ℕ × ℕ × ℕ) Refusal
arrival c i n m =
    cond (nat_lt i (length c.weights))
    (cond (nat_lt 0 n)
    (cond (nat_le n c.largest)
    (cond (nat_lt (length m.sender.waiting) c.capacity)
    (cond (nat_lt (unsettled m) 1024)
    (Ok (offer c i n m))
    (Err TooManyUnsettled))
    (Err (NoRoom Full)))
    (Err TooLong))
    (Err Empty))
    (Err UnknownSession)

-- CLOCK MOVE does ticks until the clock is there, and answers how many packets left in it
abbrev pub move : Config → ℕ → Machine → Result ℕ Refusal
move c t m =
    cond (nat_le m.clock t)
    (cond (nat_le t last_tick)
    (Ok (length (ticks c (t - m.clock) m).desk.left - length m.desk.left))
    (Err PastTheEnd))
    (Err TickPassed)

-- SETTLEMENT of the slip with this link number and packet number
abbrev pub settlement : Config → ℕ → ℕ → Machine → Result ℕ Refusal
settlement c link number m =
    cond (link == c.link)
    (cond (among number m.desk.out) (Ok number) (Err NotOut))
    (Err OtherLink)

-- a settlement so, as a call, and as the answer where it is granted
abbrev pub settling : Settlement → ℕ → ℕ → Call
settling how.File link number = File link number
settling how.Return link number = Return link number

abbrev pub granted : Settlement → ℕ → Answer
granted how.File number = Filed number
granted how.Return number = Returned number

-- FIGURES of session i
abbrev pub figures_of : ℕ → Machine → Figures
figures_of i m = record {
  accepted = slice_index m.bytes.accepted i;
  sent = slice_index m.bytes.sent i;
  served = slice_index m.bytes.served i;
  lead = pos (slice_index m.bytes.sent i) -ℤ pos (slice_index m.bytes.served i);
  waiting = total (λ p. only (p.session == i) p.size) m.sender.waiting;
}

abbrev pub figures : Config → ℕ → Machine → Result Figures Refusal
figures c i m = cond (nat_lt i (length c.weights)) (Ok (figures_of i m)) (Err UnknownSession)

-- TOTALS
abbrev pub totals : Machine → Totals
totals m = record {
  waiting = length m.sender.waiting;
  sending = on_line m.sender.line;
  left = length m.desk.left;
  out = length m.desk.out;
  filed = m.desk.filed;
  returned = m.desk.returned;
}

-- an answer, from what was found or refused
abbrev pub told : {X : Type 0} → (X → Answer) → Result X Refusal → Answer
told say (Ok x) = say x
told say (Err e) = Refused e

-- COLLECTION hands out the first packet of the left list and answers its slip, or none if the list is empty
abbrev pub slip_of : ℕ → Option Departed → Option SlipCopy
slip_of link None = None
slip_of link (Some d) = Some (slip link d)

-- an accepted packet's number, stamp and latest tick
abbrev pub arrived : ℕ × ℕ × ℕ → Answer
arrived a = Accepted a.0 a.1 a.2

-- what is answered to a call
abbrev pub answer : Config → Machine → Call → Answer
answer c m (Arrive i n tag) = told arrived (arrival c i n m)
answer c m (MoveTo t) = told (Moved t) (move c t m)
answer c m Collect = Collected (slip_of c.link (first m.desk.left))
answer c m (File link number) = told Filed (settlement c link number m)
answer c m (Return link number) = told Returned (settlement c link number m)
answer c m (AskFigures i) = told FiguresAre (figures c i m)
answer c m AskTotals = TotalsAre (totals m)

-- What happens at a machine: a packet is accepted (session, length, tag), a tick passes, the first of the left list is handed out, a packet
-- that is out is filed or returned.
pub data Event : Type 0 where
  accepted : ℕ → ℕ → ℕ → Event
  ticked : Event
  collected : Event
  filed : ℕ → Event
  returned : ℕ → Event

abbrev pub step : Config → Event → Machine → Machine
step c (accepted i n tag) m = accept c i n tag m
step c ticked m = tick c m
step c collected m = with_desk hand_out m
step c (filed number) m = with_desk (file number) m
step c (returned number) m = with_desk (return number) m

-- the events, the latest first
abbrev pub steps : Config → List Event → Machine → Machine
steps c [] m = m
steps c (e ∷ es) m = step c e (steps c es m)

-- these events if the call is not refused
abbrev pub if_granted : {X : Type 0} → Result X Refusal → List Event → List Event
if_granted (Ok x) es = es
if_granted (Err e) es = []

-- what happens by a call, the latest first
abbrev pub happens : Config → Machine → Call → List Event
happens c m (Arrive i n tag) = if_granted (arrival c i n m) (accepted i n tag ∷ [])
happens c m (MoveTo t) = if_granted (move c t m) (replicate (t - m.clock) ticked)
happens c m Collect = collected ∷ []
happens c m (File link number) = if_granted (settlement c link number m) (filed number ∷ [])
happens c m (Return link number) = if_granted (settlement c link number m) (returned number ∷ [])
happens c m (AskFigures i) = []
happens c m AskTotals = []

-- a machine's response to a call: the machine after it, and the answer
abbrev pub respond : Config → Machine → Call → Machine × Answer
respond c m x = (steps c (happens c m x) m, answer c m x)

-- calls, the latest first: the machine after them, what happened by them (the latest first), and what was answered (the first first)
abbrev pub after : Config → List Call → Machine
after c [] = opened c
after c (x ∷ xs) = (respond c (after c xs) x).0

abbrev pub events : Config → List Call → List Event
events c [] = []
events c (x ∷ xs) = happens c (after c xs) x ++ events c xs

abbrev pub answers : Config → List Call → List Answer
answers c [] = []
answers c (x ∷ xs) = answers c xs ++ (respond c (after c xs) x).1 ∷ []
