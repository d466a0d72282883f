use Rattle.std.proofs.Common.{◌≡◌, ◌+◌, ◌≤◌, length}
use Rattle.slot_clock.specs.Walk.{ticks_cursor}
use Rattle.slot_clock.specs.Held.{weights_of, next_of}
use Rattle.jump_clock.specs.Dries.{items, Holds, halfway}
use Rattle.jump_clock.proofs.jump.run_on.Given as goal

abbrev pub invariant-loop-left : goal.invariant-loop-left
invariant-loop-left l = (ticks_cursor (weights_of l.held) (next_of l.held) l.left l.v ≡ ticks_cursor (weights_of l.held) (next_of l.held) l.ticks l.held.cursor)
    × (l.left ≤ l.ticks) × Holds (items l.busy) l.v (next_of l.held)
    × (l.held.cursor ≤ l.v)
    × (l.jumps + length (items l.busy) ≡ length (items l.initial.busy) + halfway l.held.cursor l.v (next_of l.held))
    × (1 ≤ l.left → halfway l.held.cursor l.v (next_of l.held) ≡ 0)

abbrev pub decreases-loop-left : goal.decreases-loop-left
decreases-loop-left l = l.left
