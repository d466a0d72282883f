use Rattle.std.proofs.Common.{◌+◌, ◌-◌, ◌≤◌, refl, arith}
use Rattle.link.specs.Stretch.{loaded, spent}
use Rattle.link.proofs.Spends.{reach_most, reach_some, spend_shown, carries, stretch_shown}
use Rattle.link.proofs.link.Link.stretch.Goals as goal

pub returns : goal.returns
returns g c =
    let l = c.load.new.self in
    let k = c.reach-ticks.result in
    let span = c.args.until - l.clock in
    let from = c.load.ensures.clock in
    let to = c.send.ensures.clock in
    let most = reach_most l.line span in
    let some = reach_some l.line span (omega arith) l.busy in
    let is = c.reach-ticks.ensures in
    let late : l.clock + k ≤ 17592186044416 = omega (arith, c.requires.last) in
    record {
      shows = λ f m s o.
          let s₁ = c.load.ensures.shows f m s o in
          let s₂ = spend_shown m s₁ o k late _ c.run.ensures.after refl refl refl refl refl refl refl refl refl refl refl refl in
          stretch_shown m s₁ o k late span _ is (omega arith) l.busy (omega arith) _ (c.send.ensures.shows f (spent f k (loaded m)) s₂ (carries m s₁ o k late));
      on = (omega arith, omega arith);
    }
