use Rattle.std.proofs.Common.{◌+◌, ◌<◌, length, set, sym, ap, subst, arith}
use Rattle.slot_clock.specs.Held.{next_of}
use Rattle.slot_clock.specs.Holding.{held_stamp, held_low}
use Rattle.jump_clock.specs.Dries.{items, Holds}
use Rattle.jump_clock.proofs.Busies.{absent, fewer, later_end, holds_renewed_at, holds_entered}
use Rattle.jump_clock.proofs.jump.JumpClock.grant.Goals as goal
use Rattle.jump_clock.proofs.jump.JumpClock.grant.Goals.{in-Some, in-None}

pub overflow_add-dry : goal.overflow_add-dry
overflow_add-dry c = omega (arith, held_stamp c.args.self.now.held c.args.session c.args.size c.args.from c.requires.room c.args.stamp c.requires.stamp)

pub renew-requires-clause-later : goal.renew-requires-clause-later
renew-requires-clause-later c =
    let l = c.args.self.now in
    let h = l.held in
    let f = c.in-Some.ensures in
    let low = held_low h c.args.session c.args.size c.args.from c.requires.room c.args.stamp c.requires.stamp in
    omega (arith, later_end (items l.busy) h.cursor (next_of h) c.in-Some.at c.args.session f.1 l.holds f.0, low, c.requires.room.start)

pub enter-requires : goal.enter-requires
enter-requires c =
    let l = c.args.self.now in
    let h = l.held in
    let known : c.args.session < length (next_of h) = omega (arith, h.same, c.requires.room.known) in
    let a = absent (items l.busy) h.cursor (next_of h) l.holds c.args.session known c.in-None.ensures in
    omega (arith, h.same, h.layout.few, fewer (items l.busy) h.cursor (next_of h) c.args.session l.holds known a)

pub invariant_of-self : goal.invariant_of-self
invariant_of-self c =
    let l = c.args.self.now in
    let h = l.held in
    let i = c.args.session in
    let end = c.args.stamp + 1 in
    let next = next_of h in
    let xs = items l.busy in
    let known : i < length next = omega (arith, h.same, c.requires.room.known) in
    let low = held_low h i c.args.size c.args.from c.requires.room c.args.stamp c.requires.stamp in
    let later : h.cursor < end = omega (arith, low, c.requires.room.start) in
    let holds : Holds (items c.match-find.self.1.1.0) h.cursor (set next i end)
    = elim c.match-find.branch [
      | in-Some w ↦ subst (λ ys. Holds ys h.cursor (set next i end)) (sym (ap (λ p. items p.1.1.0) w.self-is))
          (holds_renewed_at xs (items w.renew.new.self) h.cursor next w.in-Some.at end i w.in-Some.ensures.1 l.holds w.in-Some.ensures.0 later w.renew.ensures)
      | in-None w ↦ subst (λ ys. Holds ys h.cursor (set next i end)) (sym (ap (λ p. items p.1.1.0) w.self-is))
          (holds_entered xs (items w.enter.new.self) h.cursor next i end l.holds known (absent xs h.cursor next l.holds i known w.in-None.ensures) later w.enter.ensures)
    ] in
    record {
      holds = subst (λ n. Holds (items c.match-find.self.1.1.0) c.grant.new.self.cursor n) (sym c.grant.ensures.next.1)
          (subst (λ u. Holds (items c.match-find.self.1.1.0) u (set next i end)) (sym c.grant.ensures.next.0) holds);
    }
