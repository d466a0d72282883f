use Rattle.std.proofs.Common.{◌≡◌, true, rules}
use Rattle.std.proofs.lemmas.List.Elements.{pair_read}
use Rattle.std.proofs.lemmas.List.Sorted.{IsPermutation-trans}
use Rattle.heap_order.proofs.Sifting.{swap_of, sinks}
use Rattle.heap_order.proofs.sift.sift_down.Goals as goal

pub loop-i-preserved : goal.loop-i-preserved
loop-i-preserved g c =
    let laws = g.met.T.TotalOrder in
    let said = c.swap.ensures in
    let best = c.least_child-child.ensures in
    let first = pair_read c.loop-i.s (λ x y. g.T.TotalOrder.before x y ≡ true) c.least_child-child.result c.loop-i.i _ _ (search rules) (search rules) c.index-s-child.is c.index-s-i.is (search rules) in
    let s = swap_of said.len said.by_index.0 said.by_index.1 said.by_index.2 in (
      search rules,
      IsPermutation-trans _ _ _ c.loop-i.invariant.1 said.permutation,
      sinks g.T.TotalOrder.before laws.total laws.transitive _ _ c.loop-i.i c.least_child-child.result best.child.0 best.child.2 best.child.1 s best.least first c.loop-i.invariant.2,
    )
