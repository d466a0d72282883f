use Rattle.std.proofs.Common.{refl, arith}
use Rattle.slot_clock.specs.Held.{next_of}
use Rattle.jump_clock.specs.Dries.{items}
use Rattle.jump_clock.proofs.Runs.{sessions_busy, halfway_state}
use Rattle.jump_clock.proofs.jump.JumpClock.run_told.Goals as goal

pub returns : goal.returns
returns c =
    let l = c.args.self.now in
    let h = l.held in
    let exit = c.pass.new.self in
    let before = sessions_busy h (items l.busy) h.cursor (next_of h) refl refl l.holds in
    let after = sessions_busy exit (items c.run_on-to.new.busy) c.run_on-to.result.0 (next_of h) c.pass.ensures.next.0 c.pass.ensures.next.1 c.run_on-to.ensures.holds in
    let half = halfway_state h exit c.run_on-to.result.0 (next_of h) c.pass.ensures.next.0 c.pass.ensures.next.1 in
    record { after = c.pass.ensures.after; answer = (c.pass.ensures.answer, omega (arith, before, after, c.run_on-to.ensures.jumps, half)) }
