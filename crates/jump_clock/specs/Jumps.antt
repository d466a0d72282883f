-- What a jump needs. Assumes nothing.
use Rattle.std.specs.Prelude.{◌≡◌, ℕ, ◌^◌, ◌<◌, ◌≤◌, List, length, slice_index}
use Rattle.tick_machine.specs.Slots.{round_length}
use Rattle.slot_clock.specs.Walk.{Tops}

-- with V at v, the session `at` is busy and runs dry first; ws are the weights, and n is the number of slots in a round
pub record Ahead (ws next : List ℕ) (n v at : ℕ) : Type 0 where
  pub whole : n ≡ round_length ws
  pub some : 0 < n
  pub small : n ≤ 4096
  pub few : length ws ≤ 64
  pub same : length next ≡ length ws
  pub tops : Tops ws next
  pub near : slice_index next at ≤ 2 ^ 57
  pub known : at < length next
  pub busy : v < slice_index next at
  pub first : (j : ℕ) → j < length next → v < slice_index next j → slice_index next at ≤ slice_index next j
