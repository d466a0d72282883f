use Rattle.std.proofs.Common.{◌≡◌, ◌-◌, ◌≤◌, length}
use Rattle.tick_machine.specs.Owed.{greatest, owed_slots}
use Rattle.slot_clock.specs.Walk.{ticks_cursor}
use Rattle.slot_clock.proofs.step.walk.Given as goal

abbrev pub invariant-loop-left : goal.invariant-loop-left
invariant-loop-left l = (ticks_cursor l.weights l.next l.left l.v ≡ ticks_cursor l.weights l.next l.ticks l.cursor) × (l.left ≤ length (owed_slots l.weights l.v l.next))

abbrev pub decreases-loop-left : goal.decreases-loop-left
decreases-loop-left l = greatest l.next - l.v
