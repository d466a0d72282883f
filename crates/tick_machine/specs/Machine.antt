-- The tick machine of a link: its state, what an accepted packet does to it, and what a tick does to it. Assumes nothing.
use Rattle.std.specs.Prelude.{ℕ, zero, suc, ◌+◌, ◌-◌, List, [], length, replicate, Some, None, Option, slice_index, slice_set}
use Rattle.tick_machine.specs.Lists.{insert}
use Rattle.tick_machine.specs.Slots.{owner}
use Rattle.tick_machine.specs.Round.{Round, fresh_round, stamp, add, round_tick, served_slot}
use Rattle.tick_machine.specs.Sender.{Packet, Sender, free, load, send, byte_of, sent_off}
use Rattle.tick_machine.specs.Desk.{Desk, empty_desk, depart}

-- what a link was made with: its number, the largest length M, the capacity of its waiting line, the weights of its sessions
pub record Config : Type 0 where
  pub link : ℕ
  pub largest : ℕ
  pub capacity : ℕ
  pub weights : List ℕ

-- for each session the bytes accepted, sent and served
pub record Bytes : Type 0 where
  pub accepted : List ℕ
  pub sent : List ℕ
  pub served : List ℕ

-- the clock, the number of accepted packets, the round server, the waiting packets with the line, what has left, and the bytes of the sessions
pub record Machine : Type 0 where
  pub clock : ℕ
  pub count : ℕ
  pub round : Round
  pub sender : Sender
  pub desk : Desk
  pub bytes : Bytes

-- a machine just opened
abbrev pub opened : Config → Machine
opened c =
    let zeros = replicate (length c.weights) 0 in
    record {
      clock = 0;
      count = 0;
      round = fresh_round c.weights;
      sender = record { waiting = []; line = free };
      desk = empty_desk;
      bytes = record { accepted = zeros; sent = zeros; served = zeros };
    }

-- n more at the place i
abbrev pub raise : ℕ → ℕ → List ℕ → List ℕ
raise i n xs = slice_set xs i (slice_index xs i + n)

-- one more at the place, if there is one
abbrev pub one_more : Option ℕ → List ℕ → List ℕ
one_more None xs = xs
one_more (Some i) xs = raise i 1 xs

-- the latest tick of a packet with this stamp: clock + (stamp − V) + M
abbrev pub latest_tick : Config → Machine → ℕ → ℕ
latest_tick c m s = m.clock + (s - m.round.cursor) + c.largest

-- the packet of n bytes of session i, as it is accepted
abbrev pub packet : Config → ℕ → ℕ → ℕ → Machine → Packet
packet c i n tag m =
    let s = stamp c.weights i n m.round in
    record { number = m.count; session = i; size = n; tag = tag; stamp = s; latest = latest_tick c m s }

-- it is accepted
abbrev pub accept : Config → ℕ → ℕ → ℕ → Machine → Machine
accept c i n tag m = record {
  clock = m.clock;
  count = m.count + 1;
  round = add c.weights i n m.round;
  sender = record { waiting = insert (λ p. p.stamp) (packet c i n tag m) m.sender.waiting; line = m.sender.line };
  desk = m.desk;
  bytes = record { accepted = raise i n m.bytes.accepted; sent = m.bytes.sent; served = m.bytes.served };
}

-- the owner of a served slot
abbrev pub owner_of : List ℕ → Option ℕ → Option ℕ
owner_of ws None = None
owner_of ws (Some q) = Some (owner ws q)

-- A tick: (1) a free line takes the waiting packet of the least stamp; (2) a byte of the packet on the line is sent, and after its last byte the
-- packet joins the left list; (3) the round server does its tick; (4) the clock grows by 1.
abbrev pub tick : Config → Machine → Machine
tick c m =
    let l = m.sender.line in
    let ws = m.sender.waiting in
    record {
      clock = m.clock + 1;
      count = m.count;
      round = round_tick m.round;
      sender = send m.clock l ws;
      desk = depart (sent_off m.clock l ws) m.desk;
      bytes = record {
        accepted = m.bytes.accepted;
        sent = one_more (byte_of (load m.clock l ws).line) m.bytes.sent;
        served = one_more (owner_of c.weights (served_slot m.round.owed)) m.bytes.served;
      };
    }

-- k ticks
abbrev pub ticks : Config → ℕ → Machine → Machine
ticks c zero m = m
ticks c (suc k) m = tick c (ticks c k m)

-- the same machine with its desk changed
abbrev pub with_desk : (Desk → Desk) → Machine → Machine
with_desk f m = record { clock = m.clock; count = m.count; round = m.round; sender = m.sender; desk = f m.desk; bytes = m.bytes }
