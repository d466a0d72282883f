use Rattle.std.proofs.Common.{◌≡◌, ℕ, ◌+◌, ◌≤◌, Bool, drop}
use Rattle.tick_machine.specs.Slots.{round_length}
use Rattle.slot_clock.specs.Layout.{Tells, whole}
use Rattle.slot_clock.proofs.layout.weight_of.Given as goal

abbrev pub invariant-loop-i : goal.invariant-loop-i
invariant-loop-i g l = ((b : ℕ → Bool) → Tells (goal.F-post g l.counts) b → l.sum + whole b l.i (drop l.i l.weights) ≡ whole b 0 l.weights)
    × (l.sum + round_length (drop l.i l.weights) ≤ round_length l.weights)
