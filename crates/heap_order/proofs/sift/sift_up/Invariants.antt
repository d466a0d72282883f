use Rattle.std.proofs.Common.{◌≡◌, ◌<◌, length}
use Rattle.std.specs.List.Sorted.{IsPermutation}
use Rattle.heap_order.specs.Heaps.{Loose}
use Rattle.heap_order.proofs.sift.sift_up.Given as goal

abbrev pub invariant-loop-i : goal.invariant-loop-i
invariant-loop-i g l = (length l.s ≡ length l.initial.s) × (l.i < length l.s) × IsPermutation l.initial.s l.s × Loose g.T.TotalOrder.before l.s l.i

abbrev pub decreases-loop-i : goal.decreases-loop-i
decreases-loop-i g l = l.i
