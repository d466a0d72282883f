use Rattle.std.proofs.Common.{◌≡◌, ◌+◌, ◌-◌, ◌<◌, get_or, refl, rules, arith}
use Rattle.tick_machine.specs.Lists.{count}
use Rattle.slot_clock.specs.Layout.{counted}
use Rattle.jump_clock.proofs.Leaps.{busy, busy_hit, rises, dry_some, dry_goes, stop_from, stop_below, stop_goes, next_near, jump_near}
use Rattle.jump_clock.proofs.jumping.jump.Goals as goal

pub overflow_sub-through : goal.overflow_sub-through
overflow_sub-through c =
    let ws = c.args.weights.now in
    let n = c.args.round in
    let next = c.args.next.now in
    let b = busy c.args.v next in
    let a = c.requires.ahead in
    omega (
      arith,
      rises ws next n c.args.v c.args.at a,
      c.rank_of-before.ensures.is b (λ j r p. search rules),
      c.rank_of.ensures.is b (λ j r p. search rules),
    )

pub slot_from-requires : goal.slot_from-requires
slot_from-requires c =
    let ws = c.args.weights.now in
    let n = c.args.round in
    let next = c.args.next.now in
    let a = c.requires.ahead in
    record {
      whole = a.whole;
      some = a.some;
      callable = λ j k. search rules;
      hit = (busy c.args.v next, λ j r p. search rules, busy_hit ws next n c.args.v c.args.at a);
      near = jump_near ws next n c.args.v c.args.at a c.args.left c.requires.ticks c.requires.few;
    }

pub returns-then-through-left : goal.returns-then-through-left
returns-then-through-left c =
    let ws = c.args.weights.now in
    let n = c.args.round in
    let next = c.args.next.now in
    let v = c.args.v in
    let at = c.args.at in
    let b = busy v next in
    let a = c.requires.ahead in
    let through = c.rank_of.result - c.rank_of-before.result in
    let e : count (counted ws b) v + through ≡ count (counted ws b) (get_or next at 0)
    = omega (arith, rises ws next n v at a, c.rank_of-before.ensures.is b (λ j r p. search rules), c.rank_of.ensures.is b (λ j r p. search rules)) in
    let some = dry_some ws next n v at a through c.args.left e c.if-through-left.true in
    record {
      goes = dry_goes ws next n v at a through c.args.left e c.if-through-left.true;
      less = omega (arith, some, c.requires.ticks);
      within = omega arith;
      ahead = a.busy;
      dry = λ _. refl;
    }

pub overflow_add-result : goal.overflow_add-result
overflow_add-result c =
    let ws = c.args.weights.now in
    let n = c.args.round in
    let next = c.args.next.now in
    let v = c.args.v in
    let at = c.args.at in
    let b = busy v next in
    let a = c.requires.ahead in
    let less : count (counted ws b) v + c.args.left < count (counted ws b) (get_or next at 0)
    = omega (arith, rises ws next n v at a, c.rank_of-before.ensures.is b (λ j r p. search rules), c.rank_of.ensures.is b (λ j r p. search rules), c.if-through-left.false) in
    let below = stop_below ws next n v at a c.args.left c.slot_from.result c.requires.ticks less (c.slot_from.ensures.counts b (λ j r p. search rules)) (c.slot_from.ensures.rank b (λ j r p. search rules)) in
    omega (arith, below, next_near ws next n v at a)

pub returns-else-through-left : goal.returns-else-through-left
returns-else-through-left c =
    let ws = c.args.weights.now in
    let n = c.args.round in
    let next = c.args.next.now in
    let v = c.args.v in
    let at = c.args.at in
    let b = busy v next in
    let a = c.requires.ahead in
    let s = c.slot_from.result in
    let mine = c.slot_from.ensures.counts b (λ j r p. search rules) in
    let rank = c.slot_from.ensures.rank b (λ j r p. search rules) in
    let less : count (counted ws b) v + c.args.left < count (counted ws b) (get_or next at 0)
    = omega (arith, rises ws next n v at a, c.rank_of-before.ensures.is b (λ j r p. search rules), c.rank_of.ensures.is b (λ j r p. search rules), c.if-through-left.false) in
    record {
      goes = stop_goes ws next n v at a c.args.left s c.requires.ticks less mine rank;
      less = c.requires.ticks;
      within = omega (arith, stop_below ws next n v at a c.args.left s c.requires.ticks less mine rank);
      ahead = omega (arith, stop_from ws next n v at a c.args.left s c.requires.ticks less mine rank);
      dry = λ z. absurd (omega arith);
    }
