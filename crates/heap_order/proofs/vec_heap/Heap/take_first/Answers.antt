use Rattle.std.proofs.Common.{rules}
use Rattle.heap_order.proofs.Sifting.{first_least}
use Rattle.heap_order.proofs.vec_heap.Heap.take_first.Goals as goal

pub returns-clause-least : goal.returns-clause-least
returns-clause-least g c =
    let laws = g.met.T.TotalOrder in
    first_least g.T.TotalOrder.before laws.total laws.transitive c.args.self.now.items (search rules)
