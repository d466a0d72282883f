use Rattle.std.proofs.Common.{◌≡◌, ◌<◌, ◌≤◌, length, get_or, sym, ap, ◌∙◌, subst, arith}
use Rattle.slot_clock.specs.Walk.{ticks_cursor}
use Rattle.slot_clock.specs.Held.{weights_of, next_of}
use Rattle.jump_clock.specs.Ends.{blank}
use Rattle.jump_clock.specs.Dries.{items, Holds}
use Rattle.jump_clock.specs.Jumps.{Ahead}
use Rattle.jump_clock.specs.declared.dry.Dry.{Dry}
use Rattle.jump_clock.proofs.Busies.{none, firstly, halfway_moved}
use Rattle.jump_clock.proofs.Runs.{dry_missed, dry_turned, stop_short, stop_turned}
use Rattle.jump_clock.proofs.Leaps.{none_busy}
use Rattle.jump_clock.proofs.jump.run_on.Goals as goal
use Rattle.jump_clock.proofs.jump.run_on.Goals.{then-to-first, else-to-first}

pub jump-to-requires-clause-ahead : goal.jump-to-requires-clause-ahead
jump-to-requires-clause-ahead c =
    let h = c.args.held.now in
    let b = c.loop-left.busy in
    let f = c.in-Some.ensures in
    subst (λ ws. Ahead ws c.nexts.result.now h.layout.slots c.loop-left.v c.in-Some.first.session) (sym c.weights.ensures)
    (subst (λ n. Ahead (weights_of h) n h.layout.slots c.loop-left.v c.in-Some.first.session) (sym c.nexts.ensures)
    (subst (λ (x : Dry). Ahead (weights_of h) (next_of h) h.layout.slots c.loop-left.v x.session) (sym f.1) (firstly h (items b) c.loop-left.v c.loop-left.invariant.2 b.ordered f.0)))

pub returns-in_default-clause-is : goal.returns-in_default-clause-is
returns-in_default-clause-is c =
    let h = c.args.held.now in
    sym (none_busy (weights_of h) (next_of h) c.loop-left.left c.loop-left.v (none (items c.loop-left.busy) c.loop-left.v (next_of h) c.loop-left.invariant.2 (ap length c.in_default.ensures))) ∙ c.loop-left.invariant.0

pub loop-left-preserved : goal.loop-left-preserved
loop-left-preserved c =
    let h = c.args.held.now in
    let next = next_of h in
    let b = c.loop-left.busy in
    let xs = items b in
    let v = c.loop-left.v in
    let i = c.loop-left.invariant in
    let o = c.jump-to.ensures in
    let there = c.nexts.ensures in
    let goes : ticks_cursor (weights_of h) next c.jump-to.result.1 c.jump-to.result.0 ≡ ticks_cursor (weights_of h) next c.loop-left.left v
    = subst (λ ws. ticks_cursor ws next c.jump-to.result.1 c.jump-to.result.0 ≡ ticks_cursor ws next c.loop-left.left v) c.weights.ensures
    (subst (λ n. ticks_cursor c.weights.result.now n c.jump-to.result.1 c.jump-to.result.0 ≡ ticks_cursor c.weights.result.now n c.loop-left.left v) there o.goes) in
    let to = c.jump-to.result.0 in
    let f = c.in-Some.ensures in
    let ends : c.in-Some.first.end ≡ (get_or xs 0 blank).end = ap (λ (x : Dry). x.end) f.1 in
    let past : h.cursor < to = omega (arith, i.3, o.ahead) in
    let m = halfway_moved h.cursor to next past in
    elim c.if-to-first.branch [
      | then-to-first w ↦
          let e : to ≡ (get_or xs 0 blank).end = w.if-to-first.true ∙ ends in
          let t = dry_turned h xs v i.2 b.ordered f.0 (items w.drop_first.new.self) to e w.drop_first.ensures.lost w.drop_first.ensures.count in
          let same : items c.if-to-first.busy ≡ items w.drop_first.new.self = ap items w.busy-is in (
            goes ∙ i.0,
            omega (arith, o.less, i.1),
            subst (λ ys. Holds ys to next) (sym same) t.holds,
            omega (arith, past),
            omega (arith, ap length same, t.turns, i.4, i.5 c.loop-left-test.true, m),
            λ z. m ∙ dry_missed h xs v i.2 b.ordered f.0 to e,
          )
      | else-to-first w ↦
          let apart : to ≡ (get_or xs 0 blank).end → ⊥ = λ e. w.if-to-first.false (e ∙ sym ends) in
          let within : to ≤ get_or next (get_or xs 0 blank).session 0 = omega (arith, o.within, ap (λ n. get_or n c.in-Some.first.session 0) there, ap (λ (x : Dry). get_or next x.session 0) f.1) in
          let t = stop_turned h xs v i.2 b.ordered f.0 to o.ahead within apart in
          let same : items c.if-to-first.busy ≡ xs = ap items w.busy-is in (
            goes ∙ i.0,
            omega (arith, o.less, i.1),
            subst (λ ys. Holds ys to next) (sym same) t.holds,
            omega (arith, past),
            omega (arith, ap length same, t.turns, i.4, i.5 c.loop-left-test.true, m),
            λ z. absurd (omega (arith, stop_short h xs v i.2 b.ordered f.0 to o.ahead within apart, o.dry z, ap (λ n. get_or n c.in-Some.first.session 0) there, ap (λ (x : Dry). get_or next x.session 0) f.1)),
          )
    ]
