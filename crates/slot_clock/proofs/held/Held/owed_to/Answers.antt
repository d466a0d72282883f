use Rattle.std.proofs.Common.{◌≡◌, length, get_or, sym, ap, ◌∙◌, arith}
use Rattle.std.proofs.lemmas.Bool.{ltb-false}
use Rattle.slot_clock.specs.Held.{weights_of, next_of}
use Rattle.slot_clock.specs.Walk.{below}
use Rattle.slot_clock.specs.Holding.{owed_unknown, owed_known}
use Rattle.slot_clock.proofs.held.Held.owed_to.Goals as goal

pub returns-in_default : goal.returns-in_default
returns-in_default c =
    let h = c.args.self.now in
    let past = ltb-false c.args.session (length c.deref.result.now) (sym c.in_default.ensures.lookup.0) in
    owed_unknown h c.args.session (omega (arith, past, ap length c.deref.ensures.0, h.same))

pub returns : goal.returns
returns c =
    let h = c.args.self.now in
    let i = c.args.session in
    let ws = weights_of h in
    let there = c.in-Some.ensures.lookup.3 in
    let until : c.own_below-until.result ≡ below ws i (get_or (next_of h) i 0)
    = c.own_below-until.ensures ∙ ap (below ws i) (there.1 0 ∙ ap (λ xs. get_or xs i 0) c.deref.ensures.0) in
    owed_known h i c.saturating_sub.result (omega (arith, there.0, ap length c.deref.ensures.0, h.same)) (omega (arith, c.saturating_sub.ensures, until, c.own_below.ensures))
