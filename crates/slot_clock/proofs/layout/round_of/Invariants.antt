use Rattle.std.proofs.Common.{◌≡◌, ◌+◌, ◌≤◌, drop}
use Rattle.tick_machine.specs.Slots.{round_length}
use Rattle.slot_clock.specs.Calls.{no_zero}
use Rattle.slot_clock.proofs.layout.round_of.Given as goal

abbrev pub invariant-loop-w : goal.invariant-loop-w
invariant-loop-w l = (l.sum + round_length (drop l.w-index l.weights) ≡ round_length l.weights) × (no_zero (drop l.w-index l.weights) ≡ no_zero l.weights) × (l.sum ≤ 4096)
