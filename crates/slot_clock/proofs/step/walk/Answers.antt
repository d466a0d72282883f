use Rattle.std.proofs.Common.{◌≡◌, ◌+◌, get_or, sym, ap, ◌∙◌, arith}
use Rattle.std.proofs.lemmas.Bool.{lt-ltb, le-ltb}
use Rattle.tick_machine.specs.Slots.{owner}
use Rattle.slot_clock.specs.Walk.{ticks_cursor}
use Rattle.slot_clock.specs.Walks.{greatest_most, step_due, step_skip}
use Rattle.slot_clock.proofs.Steps.{cursor_enough, owed_ahead, owed_past, owed_same}
use Rattle.slot_clock.proofs.step.walk.Goals as goal
use Rattle.slot_clock.proofs.step.walk.Goals.{then-v-next, else-v-next}

pub loop-left-init : goal.loop-left-init
loop-left-init c =
    let ws = c.args.weights.now in
    let next = c.args.next.now in
    let m = c.min-left.ensures in
    (ap (λ x. ticks_cursor ws next x c.args.cursor) m ∙ cursor_enough ws next c.args.ticks c.args.owed c.args.cursor c.requires.owed, omega (arith, m, c.requires.owed))

pub overflow_add-v : goal.overflow_add-v
overflow_add-v c =
    let ws = c.args.weights.now in
    let next = c.args.next.now in
    let a = owed_ahead ws next c.loop-left.v (omega (arith, c.loop-left-test.true, c.loop-left.invariant.1)) in
    omega (arith, a, greatest_most next 18446744073709551615 (λ j l. omega (arith, c.type_inv.next j)))

pub loop-left-smaller : goal.loop-left-smaller
loop-left-smaller c = omega (arith, owed_ahead c.args.weights.now c.args.next.now c.loop-left.v (omega (arith, c.loop-left-test.true, c.loop-left.invariant.1)))

pub loop-left-preserved : goal.loop-left-preserved
loop-left-preserved c =
    let ws = c.args.weights.now in
    let next = c.args.next.now in
    let v = c.loop-left.v in
    let left = c.loop-left.left in
    let some = c.loop-left-test.true in
    let a = owed_ahead ws next v (omega (arith, some, c.loop-left.invariant.1)) in
    let o = ap (λ s. get_or next s 0) c.owner_of.ensures.is in
    elim c.if-v-next.branch [
      | then-v-next w ↦
          let d = lt-ltb v (get_or next (owner ws v) 0) (omega (arith, w.if-v-next.true, o)) in (
            ap (λ n. ticks_cursor ws next n (v + 1)) w.left-is ∙ sym (step_due ws next left v some d) ∙ c.loop-left.invariant.0,
            omega (arith, w.left-is, owed_past ws next v a d, c.loop-left.invariant.1),
          )
      | else-v-next w ↦
          let d = le-ltb v (get_or next (owner ws v) 0) (omega (arith, w.if-v-next.false, o)) in (
            ap (λ n. ticks_cursor ws next n (v + 1)) w.left-is ∙ sym (step_skip ws next c.requires.tops left v some a d) ∙ c.loop-left.invariant.0,
            omega (arith, w.left-is, owed_same ws next v a d, c.loop-left.invariant.1),
          )
    ]

pub returns : goal.returns
returns c =
    let z : c.loop-left.left ≡ 0 = omega (arith, c.loop-left-test.false) in
    sym (ap (λ n. ticks_cursor c.args.weights.now c.args.next.now n c.loop-left.v) z) ∙ c.loop-left.invariant.0
