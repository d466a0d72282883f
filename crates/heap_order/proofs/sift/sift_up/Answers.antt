use Rattle.std.proofs.Common.{◌≡◌, ◌<◌, true, length, arith, rules}
use Rattle.std.proofs.lemmas.List.Elements.{pair_read}
use Rattle.std.proofs.lemmas.List.Sorted.{IsPermutation-trans}
use Rattle.heap_order.specs.Heaps.{parent}
use Rattle.heap_order.proofs.Sifting.{swap_of, rises}
use Rattle.heap_order.proofs.sift.sift_up.Goals as goal

pub loop-i-preserved : goal.loop-i-preserved
loop-i-preserved g c =
    let laws = g.met.T.TotalOrder in
    let i = c.loop-i.i in
    let said = c.swap.ensures in
    let in' : i < length c.loop-i.s = c.loop-i.invariant.1 in
    let t : 0 < i = omega arith in
    let first = pair_read c.loop-i.s (λ x y. g.T.TotalOrder.before x y ≡ true) i (parent i) _ _ in' (omega arith) c.index-s-i.is c.index-s-up.is (search rules) in
    let s = swap_of said.len said.by_index.0 said.by_index.1 said.by_index.2 in (
      search rules,
      omega (arith, said.len),
      IsPermutation-trans _ _ _ c.loop-i.invariant.2 said.permutation,
      rises g.T.TotalOrder.before laws.total laws.transitive _ _ i t in' s first c.loop-i.invariant.3,
    )
