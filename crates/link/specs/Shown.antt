-- What a link shows of the tick machine, given what its waiting line and its slot clock mean. Assumes nothing.
use Rattle.std.specs.Prelude.{◌≡◌, List, [], ◌∷◌, map, length, vec_items, vec_len}
use Rattle.std.specs.VecDeque.{deque_items}
use Rattle.waiting_line.specs.declared.line.WaitingLine.{Ghosts as WaitingLine}
use Rattle.slot_clock.specs.declared.clock.SlotClock.{Ghosts as SlotClock}
use Rattle.waiting_line.specs.declared.pair.Pair.{Pair}
use Rattle.slot_clock.specs.State.{state_of}
use Rattle.tick_machine.specs.Lists.{insert}
use Rattle.tick_machine.specs.declared.packet.Packet.{Packet}
use Rattle.tick_machine.specs.Machine.{Config, Machine}
use Rattle.link.specs.declared.link.Link.{Link}
use Rattle.link.specs.Orderly.{Orderly}

-- a packet as its waiting line holds it
abbrev pub pair : Packet → Pair
pair p = record { stamp = p.stamp; packet = p.number }

-- the packets by rising numbers
abbrev pub by_number : List Packet → List Packet
by_number [] = []
by_number (p ∷ ps) = insert (λ q. q.number) p (by_number ps)

module _ {W S : Type 0} (line : WaitingLine W) (clock : SlotClock S) where
  -- the link is that machine: its waiting line's set is the waiting packets, its slot clock means the round server
  pub record Shown (c : Config) (m : Machine) (l : Link W S) : Type 0 where
    pub pairs_are : line.pairs l.waiting ≡ map pair m.sender.waiting
    pub capacity_is : line.capacity l.waiting ≡ c.capacity
    pub state_is : clock.state l.slots ≡ state_of c.weights m.clock m.round
    pub number_is : l.number ≡ c.link
    pub largest_is : l.largest ≡ c.largest
    pub many : vec_len l.sessions ≡ length c.weights
    pub accepted_are : map (λ s. s.accepted) (vec_items l.sessions) ≡ m.bytes.accepted
    pub sent_are : map (λ s. s.sent) (vec_items l.sessions) ≡ m.bytes.sent
    pub clock_is : l.clock ≡ m.clock
    pub count_is : l.count ≡ m.count
    pub line_is : l.line ≡ m.sender.line
    pub table_is : vec_items l.table ≡ by_number m.sender.waiting
    pub left_is : deque_items l.left ≡ m.desk.left
    pub out_is : vec_items l.out ≡ m.desk.out
    pub filed_is : l.filed ≡ m.desk.filed
    pub returned_is : l.returned ≡ m.desk.returned

  -- whatever orderly machine the link shows, it shows what this makes of it afterwards
  abbrev pub Turns : Link W S → (Config → Machine → Machine) → Link W S → Type 0
  Turns l turn l' = (c : Config) (m : Machine) → Shown c m l → Orderly c m → Shown c (turn c m) l'
