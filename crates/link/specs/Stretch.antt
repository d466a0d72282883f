-- What a stretch of ticks does at once. Assumes nothing.
use Rattle.std.specs.Prelude.{ℕ, ◌+◌, ◌-◌, ◌^◌, ◌<◌, min, List, length, None, Option, slice_index, Some}
use Rattle.tick_machine.specs.declared.packet.Departed.{Departed}
use Rattle.tick_machine.specs.Sender.{Line, free}
use Rattle.tick_machine.specs.Round.{round_ticks}
use Rattle.tick_machine.specs.Sender.{load, onward, leaving}
use Rattle.tick_machine.specs.Desk.{depart}
use Rattle.tick_machine.specs.Machine.{Config, Machine, raise, ticks}
use Rattle.tick_machine.specs.Law.{On}

-- the machine with its line loaded: a tick is the same with it or without
abbrev pub loaded : Machine → Machine
loaded m = record {
  clock = m.clock;
  count = m.count;
  round = m.round;
  sender = load m.clock m.sender.line m.sender.waiting;
  desk = m.desk;
  bytes = m.bytes;
}

-- how many of so many ticks pass before the line changes
abbrev pub reach : Line → ℕ → ℕ
reach None span = span
reach (Some s) span = min span s.rest

-- k ticks at the clock and at the round server, and none at the line
abbrev pub spent : Config → ℕ → Machine → Machine
spent c k m = record {
  clock = m.clock + k;
  count = m.count;
  round = round_ticks k m.round;
  sender = m.sender;
  desk = m.desk;
  bytes = record { accepted = m.bytes.accepted; sent = m.bytes.sent; served = (ticks c k m).bytes.served };
}

-- the line after k bytes
abbrev pub line_after : ℕ → Line → Line
line_after k None = free
line_after k (Some s) = onward s.packet s.started (s.rest - k)

-- the packet that leaves by them, at this tick
abbrev pub leaver_after : ℕ → ℕ → Line → Option Departed
leaver_after t k None = None
leaver_after t k (Some s) = leaving t s.packet s.started (s.rest - k)

-- the sent bytes after them
abbrev pub sent_after : ℕ → Line → List ℕ → List ℕ
sent_after k None xs = xs
sent_after k (Some s) xs = raise s.packet.session k xs

-- k bytes of the packet on the line are sent
abbrev pub send_bytes : ℕ → Machine → Machine
send_bytes k m = record {
  clock = m.clock;
  count = m.count;
  round = m.round;
  sender = record { waiting = m.sender.waiting; line = line_after k m.sender.line };
  desk = depart (leaver_after m.clock k m.sender.line) m.desk;
  bytes = record { accepted = m.bytes.accepted; sent = sent_after k m.sender.line m.bytes.sent; served = m.bytes.served };
}

-- k bytes more of the packet on the line fit its session's record
pub record Carries (c : Config) (k : ℕ) (m : Machine) : Type 0 where
  pub known : On (λ p. p.session < length c.weights) m.sender.line
  pub fits : (i : ℕ) → slice_index m.bytes.sent i + k < 2 ^ 64
