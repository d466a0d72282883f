-- The waiting packets and the line. Assumes nothing.
use Rattle.std.specs.Prelude.{ℕ, zero, suc, ◌+◌, ◌-◌, List, [], ◌∷◌, Some, None, Option}
pub use Rattle.tick_machine.specs.declared.packet.Packet.{Packet}
pub use Rattle.tick_machine.specs.declared.packet.Departed.{Departed}
pub use Rattle.tick_machine.specs.declared.packet.Sending.{Sending}

-- the line is free or sending
abbrev pub Line : Type 0
Line = Option Sending

abbrev pub free : Line
free = None

-- sending p, which was started at that tick and has n bytes left
abbrev pub sending : Packet → ℕ → ℕ → Line
sending p started n = Some (record { packet = p; started = started; rest = n })

-- the packets that wait, in rising order of their stamps, and the line
pub record Sender : Type 0 where
  pub waiting : List Packet
  pub line : Line

-- if the line is free and packets wait, the one of least stamp goes onto the line, and the clock is its starting tick
abbrev pub load : ℕ → Line → List Packet → Sender
load clock None [] = record { waiting = []; line = free }
load clock None (p ∷ ws) = record { waiting = ws; line = sending p clock p.size }
load clock (Some s) ws = record { waiting = ws; line = Some s }

-- the line with p on it when n bytes are left: after the last it is free
abbrev pub onward : Packet → ℕ → ℕ → Line
onward p started zero = free
onward p started (suc n) = sending p started (suc n)

-- one byte of the packet on the line is sent
abbrev pub send_byte : Line → Line
send_byte None = free
send_byte (Some s) = onward s.packet s.started (s.rest - 1)

-- whose byte that is
abbrev pub byte_of : Line → Option ℕ
byte_of None = None
byte_of (Some s) = Some s.packet.session

-- the packet whose last byte that is, with its leaving tick
abbrev pub leaving : ℕ → Packet → ℕ → ℕ → Option Departed
leaving tick p started zero = Some (record { packet = p; started = started; left = tick })
leaving tick p started (suc n) = None

abbrev pub leaver : ℕ → Line → Option Departed
leaver tick None = None
leaver tick (Some s) = leaving tick s.packet s.started (s.rest - 1)

-- what a tick makes of the line and the waiting packets
abbrev pub send : ℕ → Line → List Packet → Sender
send clock l ws = record { waiting = (load clock l ws).waiting; line = send_byte (load clock l ws).line }

-- the packet that leaves in the tick
abbrev pub sent_off : ℕ → Line → List Packet → Option Departed
sent_off clock l ws = leaver (clock + 1) (load clock l ws).line
