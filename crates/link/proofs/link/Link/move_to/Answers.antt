use Rattle.std.proofs.Common.{◌≡◌, ℕ, ◌+◌, ◌-◌, ◌≤◌, subst, arith, rules}
use Rattle.tick_machine.specs.Machine.{ticks}
use Rattle.tick_machine.specs.Life.{last_tick, after}
use Rattle.link.specs.Shown.{Shown}
use Rattle.link.proofs.Reached.{orderly_ticks}
use Rattle.link.proofs.Moves.{joined_shown, passed_goes, past_goes, moved_goes}
use Rattle.link.proofs.link.Link.move_to.Goals as goal

pub returns-then-tick-self : goal.returns-then-tick-self
returns-then-tick-self g c f calls h = passed_goes h c.args.tick c.if-tick-self.true

pub returns-then-tick-gt-LAST_TICK : goal.returns-then-tick-gt-LAST_TICK
returns-then-tick-gt-LAST_TICK g c f calls h = past_goes h c.args.tick c.if-tick-self.false c.if-tick-gt-LAST_TICK.true

pub loop-self-init : goal.loop-self-init
loop-self-init g c =
    let z : 0 ≡ c.args.self.now.clock - c.args.self.now.clock = omega arith in (
      omega arith,
      omega arith,
      λ f calls h. subst (λ (k : ℕ). Shown g.W.WaitingLine g.S.SlotClock f (ticks f k (after f calls)) c.args.self.now) z h.shown,
    )

pub loop-self-preserved : goal.loop-self-preserved
loop-self-preserved g c =
    let a = c.loop-self.self.clock - c.args.self.now.clock in
    let b = c.stretch.new.self.clock - c.loop-self.self.clock in
    let inv = c.loop-self.invariant in
    let on = c.stretch.ensures.on in (
      omega arith,
      omega arith,
      λ f calls h.
          let within : (after f calls).clock + a ≤ last_tick = omega (arith, h.shown.clock_is, inv.0, inv.1, c.if-tick-gt-LAST_TICK.false) in
          joined_shown (after f calls) a b _ (omega arith) (c.stretch.ensures.shows f (ticks f a (after f calls)) (inv.2 f calls h) (orderly_ticks f h.drafted calls a within)),
    )

pub returns : goal.returns
returns g c f calls h =
    let inv = c.loop-self.invariant in
    moved_goes h c.args.tick _ _ (omega arith) (omega arith) (omega arith) (search rules) (inv.2 f calls h)
