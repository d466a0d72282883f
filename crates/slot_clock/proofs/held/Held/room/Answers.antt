use Rattle.std.proofs.Common.{◌≤◌, length, sym, ap, inl, inr, ⊎_elim, arith}
use Rattle.std.proofs.lemmas.Bool.{ltb-false}
use Rattle.slot_clock.specs.Holding.{unknown, no_size, too_much}
use Rattle.slot_clock.proofs.held.Held.room.Goals as goal

pub returns-in_default : goal.returns-in_default
returns-in_default c =
    let h = c.args.self.now in
    let past = ltb-false c.args.session (length c.deref.result.now) (sym c.in_default.ensures.lookup.0) in
    unknown h c.args.session c.args.size (omega (arith, past, ap length c.deref.ensures.0, h.same))

pub returns-then-size-eq0 : goal.returns-then-size-eq0
returns-then-size-eq0 c =
    let h = c.args.self.now in
    no_size h c.args.session c.args.size (omega (arith, c.in-Some.ensures.lookup.3.0, ap length c.deref.ensures.0, h.same)) (⊎_elim (λ e. inl e) (λ p. inr p.1) c.then-size-eq0.either)

pub returns-then-self-size-gt-MOST_OWED : goal.returns-then-self-size-gt-MOST_OWED
returns-then-self-size-gt-MOST_OWED c =
    let h = c.args.self.now in
    let long : 1 ≤ c.args.size = omega (arith, c.if-size-eq0.false) in
    too_much h c.args.session c.args.size (omega (arith, c.in-Some.ensures.lookup.3.0, ap length c.deref.ensures.0, h.same)) long c.if-size-gt-LONGEST.false c.if-self-size-gt-MOST_OWED.true
