use Rattle.std.proofs.Common.{◌+◌, ◌<◌, sym, arith}
use Rattle.slot_clock.specs.Holding.{past_end, past_stays}
use Rattle.slot_clock.proofs.held.Held.lasts.Goals as goal

pub returns-then-ticks-self : goal.returns-then-ticks-self
returns-then-ticks-self c =
    let h = c.args.self.now in
    let u : 17592186044416 < h.ticks + c.args.ticks = omega (arith, c.if-ticks-self.true, h.few) in
    (sym (past_end h c.args.ticks u), past_stays h c.args.ticks u)
