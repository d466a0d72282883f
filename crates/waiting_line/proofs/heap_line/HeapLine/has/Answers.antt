use Rattle.std.proofs.Common.{eqb, ◌∙◌, rules, tests}
use Rattle.std.proofs.lemmas.Iterator.{YieldsList-from_slice}
use Rattle.std.proofs.lemmas.Iterator.Search.{any_from_yields_List}
use Rattle.waiting_line.specs.Sums.{holds_any}
use Rattle.waiting_line.proofs.heap_line.HeapLine.has.Goals as goal

pub returns-then-at-gt0 : goal.returns-then-at-gt0
returns-then-at-gt0 c =
    let ps = c.args.self.now.heap.items in
    any_from_yields_List (λ p. eqb c.args.stamp p.stamp) _ _ _ c.any.ensures.ran (YieldsList-from_slice ps cc) (λ x b q k. search (rules, tests)) ∙ holds_any c.args.stamp ps
