-- What a link's private functions need of the machine that it shows. It holds in every history. Assumes nothing.
use Rattle.std.specs.Prelude.{◌≡◌, ℕ, ◌<◌, ◌≤◌, List, [], ◌∷◌, length, ◌≢◌, slice_index}
use Rattle.tick_machine.specs.declared.packet.Packet.{Packet}
use Rattle.tick_machine.specs.Lists.{All}
use Rattle.tick_machine.specs.Owed.{shown_round}
use Rattle.tick_machine.specs.Machine.{Config, Machine}
use Rattle.tick_machine.specs.Law.{Unsent}

-- no two packets have one number
abbrev pub Apart : List Packet → Type 0
Apart [] = Unit {0}
Apart (p ∷ ps) = All (λ q. q.number ≢ p.number) ps × Apart ps

pub record Orderly (c : Config) (m : Machine) : Type 0 where
  pub rounded : m.round ≡ shown_round c.weights m.round.cursor m.round.next
  pub apart : Apart m.sender.waiting
  pub sized : All (λ p. 1 ≤ p.size) m.sender.waiting
  pub known : Unsent (λ p. p.session < length c.weights) m.sender
  pub slow : (i : ℕ) → slice_index m.bytes.sent i ≤ m.clock
