use Rattle.std.proofs.Common.{◌≡◌, ◌+◌, ◌-◌, ◌*◌, eqb, refl, sym, ◌∙◌, subst, arith, rules, tests}
use Rattle.std.specs.Option.{IsSome}
use Rattle.std.proofs.lemmas.Iterator.{YieldsList-from_range}
use Rattle.std.proofs.lemmas.Iterator.Adapters.{option_map_id}
use Rattle.std.proofs.lemmas.Iterator.Consumers.{nth_from_yields_List, YieldsList-from_filter}
use Rattle.tick_machine.specs.Slots.{owner}
use Rattle.slot_clock.specs.Sound.{each_heavy}
use Rattle.slot_clock.proofs.Steps.{stamp_nth}
use Rattle.slot_clock.proofs.step.walk_stamp.Goals as goal

pub unwrap-requires : goal.unwrap-requires
unwrap-requires c =
    let ws = c.args.weights.now in
    let n = c.args.size * c.args.round in
    let far : (c.args.from + n) - c.args.from ≡ n = omega arith in
    let e = sym (option_map_id c.nth.result)
    ∙ nth_from_yields_List c.nth.result c.nth.new.self (c.args.size - 1) c.nth.ensures.ran
    (YieldsList-from_filter _ (λ q. eqb (owner ws q) c.args.session) (YieldsList-from_range c.args.from (c.args.from + n) n c.filter.ensures.source far)
    c.filter.ensures.closure (λ x r q k. search (rules, tests)))
    ∙ stamp_nth ws (each_heavy ws c.requires.each) c.args.session c.args.size c.args.from c.args.round c.requires.known c.requires.long c.requires.whole in
    subst IsSome (sym e) refl

pub returns : goal.returns
returns c =
    let ws = c.args.weights.now in
    let n = c.args.size * c.args.round in
    let far : (c.args.from + n) - c.args.from ≡ n = omega arith in
    let e = sym (option_map_id c.nth.result)
    ∙ nth_from_yields_List c.nth.result c.nth.new.self (c.args.size - 1) c.nth.ensures.ran
    (YieldsList-from_filter _ (λ q. eqb (owner ws q) c.args.session) (YieldsList-from_range c.args.from (c.args.from + n) n c.filter.ensures.source far)
    c.filter.ensures.closure (λ x r q k. search (rules, tests)))
    ∙ stamp_nth ws (each_heavy ws c.requires.each) c.args.session c.args.size c.args.from c.args.round c.requires.known c.requires.long c.requires.whole in
    cc
