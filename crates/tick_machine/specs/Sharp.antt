-- No bound of the law can be made smaller: for each a history that attains it. Assumes nothing.
use Rattle.std.specs.Prelude.{◌≡◌, ℕ, ◌+◌, ◌-◌, ◌*◌, ◌≤◌, List, ◌∷◌, slice_index}
use Rattle.tick_machine.specs.declared.call.Call.{Call}
use Rattle.tick_machine.specs.Slots.{round_length}
use Rattle.tick_machine.specs.Sender.{Departed}
use Rattle.tick_machine.specs.Machine.{Config}
use Rattle.tick_machine.specs.Life.{events}
use Rattle.tick_machine.specs.Story.{Served, Arrival, Story, story}
use Rattle.tick_machine.specs.Law.{Drafted, served_of, sent_of, quotient_up}

-- P holds of some entry
pub data Has {X : Type 0} (P : X → Type 0) : List X → Type 0 where
  here : {x : X} {xs : List X} → P x → Has P (x ∷ xs)
  later : {x : X} {xs : List X} → Has P xs → Has P (x ∷ xs)

-- P holds at some moment of some history: a making, addings, the opening, and calls after it (the latest first)
pub record InSomeHistory (P : Config → Story → Type 0) : Type 0 where
  pub config : Config
  pub drafted : Drafted config
  pub calls : List Call
  pub holds : P config (story config (events config calls))

-- a packet left exactly Lmax − 1 ticks after the round server served its last byte, with Lmax at least 2
abbrev pub LateByAllButOne : Config → Story → Type 0
LateByAllButOne c y = (2 ≤ y.longest) × Has (λ (d : Departed). Has (λ (b : Served). (b.slot ≡ d.packet.stamp) × (d.left ≡ b.at + (y.longest - 1))) y.served) y.gone

-- the bytes served minus the bytes sent of a session are exactly Lmax − 1, with Lmax at least 2
abbrev pub BehindByAllButOne : Config → Story → Type 0
BehindByAllButOne c y = (2 ≤ y.longest) × ((i : ℕ) × (served_of c.weights i y ≡ sent_of i y + (y.longest - 1)))

-- a packet left at its latest tick
abbrev pub LeftAtItsLatest : Config → Story → Type 0
LeftAtItsLatest c y = Has (λ (d : Departed). d.left ≡ d.packet.latest) y.gone

-- the latest tick of a packet lies exactly ⌈B/φ⌉ × Φ + M − 1 past its arrival
abbrev pub LatestTickAsLateAsCanBe : Config → Story → Type 0
LatestTickAsLateAsCanBe c y = Has (λ (a : Arrival). a.packet.latest ≡ a.at + quotient_up a.owed (slice_index c.weights a.packet.session) * round_length c.weights + (c.largest - 1)) y.arrivals

-- each bound of the law is attained
pub record BoundsAreAttained : Type 0 where
  pub prompt : InSomeHistory LateByAllButOne
  pub level : InSomeHistory BehindByAllButOne
  pub timely : InSomeHistory LeftAtItsLatest
  pub bounded : InSomeHistory LatestTickAsLateAsCanBe
