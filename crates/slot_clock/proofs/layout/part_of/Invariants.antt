use Rattle.std.proofs.Common.{◌≡◌, ℕ, ◌+◌, ◌≤◌, Bool, drop}
use Rattle.slot_clock.specs.Layout.{Tells, part}
use Rattle.slot_clock.proofs.layout.part_of.Given as goal

abbrev pub invariant-loop-i : goal.invariant-loop-i
invariant-loop-i g l = ((b : ℕ → Bool) → Tells (goal.F-post g l.counts) b → l.sum + part b l.i (drop l.i l.weights) l.p ≡ part b 0 l.weights l.position)
    × (l.sum + l.p ≤ l.position)
