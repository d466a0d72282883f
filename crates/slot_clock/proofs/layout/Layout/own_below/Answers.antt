use Rattle.std.proofs.Common.{eqb, ap, ◌∙◌, rules}
use Rattle.slot_clock.specs.Walk.{below}
use Rattle.slot_clock.proofs.layout.Layout.own_below.Goals as goal

pub returns : goal.returns
returns g c = c.rank_of.ensures.is (λ j. eqb j c.args.session) (λ j r e. search rules) ∙ ap (λ ws. below ws c.args.session c.args.x) c.deref.ensures.0
