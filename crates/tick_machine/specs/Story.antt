-- A machine with what has happened at it: the record that the law speaks of. No call reads it. Assumes nothing.
use Rattle.std.specs.Prelude.{ℕ, ◌+◌, max, List, [], ◌∷◌, Some, None, Option}
use Rattle.tick_machine.specs.Round.{owed_to, served_slot}
use Rattle.tick_machine.specs.Sender.{Packet, Departed, sent_off}
use Rattle.tick_machine.specs.Machine.{Config, Machine, opened, packet, accept, tick}
use Rattle.tick_machine.specs.Life.{Event, accepted, ticked, collected, filed, returned, step}

-- a slot that was served, and the tick at which its byte counts as served
pub record Served : Type 0 where
  pub slot : ℕ
  pub at : ℕ

-- a packet that was accepted, its arrival tick, and the bytes that the round server owed its session right after that, this packet included
pub record Arrival : Type 0 where
  pub packet : Packet
  pub at : ℕ
  pub owed : ℕ

-- the machine; the slots served and the packets that have left, each with its tick, and the packets accepted, the latest first;
-- the longest length accepted so far, Lmax
pub record Story : Type 0 where
  pub machine : Machine
  pub served : List Served
  pub gone : List Departed
  pub arrivals : List Arrival
  pub longest : ℕ

abbrev pub begun : Config → Story
begun c = record { machine = opened c; served = []; gone = []; arrivals = []; longest = 0 }

abbrev pub serving : ℕ → Option ℕ → List Served → List Served
serving t None bs = bs
serving t (Some q) bs = record { slot = q; at = t } ∷ bs

abbrev pub going : Option Departed → List Departed → List Departed
going None ds = ds
going (Some d) ds = d ∷ ds

-- a packet of n bytes of session i is accepted
abbrev pub accepting : Config → ℕ → ℕ → ℕ → Story → Story
accepting c i n tag y =
    let m = y.machine in
    record {
      machine = accept c i n tag m;
      served = y.served;
      gone = y.gone;
      arrivals = record { packet = packet c i n tag m; at = m.clock; owed = owed_to c.weights i (accept c i n tag m).round } ∷ y.arrivals;
      longest = max y.longest n;
    }

-- a tick passes: what is served or leaves in it does so at the clock plus 1
abbrev pub ticking : Config → Story → Story
ticking c y =
    let m = y.machine in
    record {
      machine = tick c m;
      served = serving (m.clock + 1) (served_slot m.round.owed) y.served;
      gone = going (sent_off m.clock m.sender.line m.sender.waiting) y.gone;
      arrivals = y.arrivals;
      longest = y.longest;
    }

-- a packet is collected or settled: nothing of this record changes
abbrev pub settling : Config → Event → Story → Story
settling c e y = record { machine = step c e y.machine; served = y.served; gone = y.gone; arrivals = y.arrivals; longest = y.longest }

abbrev pub telling : Config → Event → Story → Story
telling c (accepted i n tag) y = accepting c i n tag y
telling c ticked y = ticking c y
telling c collected y = settling c collected y
telling c (filed number) y = settling c (filed number) y
telling c (returned number) y = settling c (returned number) y

-- the story of these events, the latest first, from the opening on
abbrev pub story : Config → List Event → Story
story c [] = begun c
story c (e ∷ es) = telling c e (story c es)
