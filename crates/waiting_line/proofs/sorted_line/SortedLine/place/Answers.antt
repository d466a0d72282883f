use Rattle.std.proofs.Common.{◌≤◌, length, refl, rules}
use Rattle.std.proofs.lemmas.List.Sorted.{answers_always}
use Rattle.waiting_line.specs.Orders.{placed, fresh}
use Rattle.waiting_line.proofs.Searches.{found_there, less_before, more_behind}
use Rattle.waiting_line.proofs.sorted_line.SortedLine.place.Goals as goal

pub returns-in-Ok : goal.returns-in-Ok
returns-in-Ok c =
    let self = c.args.self.now in
    let told = rw c.deref.ensures.value at c.in-Ok.ensures.position (λ p. p.stamp) (answers_always _ _ _ (λ f a r g called. search rules)) in
    (refl, found_there self.items.items self.rising c.args.pair.stamp c.in-Ok.field-0 (search rules) told)

pub returns-in-Err : goal.returns-in-Err
returns-in-Err c =
    let self = c.args.self.now in
    let ps = self.items.items in
    let p = c.args.pair in
    let i = c.in-Err.at in
    let told = rw c.deref.ensures.value at c.in-Err.ensures.position (λ p. p.stamp) (answers_always _ _ _ (λ f a r g called. search rules)) in
    let within : i ≤ length ps = search rules in
    let less = less_before ps self.rising p.stamp i within told in
    let more = more_behind ps self.rising p.stamp i told in
    (search rules, fresh ps i p.stamp within self.rising less more, placed ps i p within less more)
