use Rattle.std.proofs.Common.{vec_items, refl, ◌∙◌, arith}
use Rattle.std.proofs.lemmas.List.{drop_all}
use Rattle.link_play.proofs.Replies.{step_played, all_played}
use Rattle.link_play.proofs.play.play_all.Goals as goal

pub play-requires : goal.play-requires
play-requires g c =
    let k = c.requires.held in
    let a = c.loop-step.invariant.2 k.config k.calls k.led in
    record { config = k.config; calls = a.since; led = a.led }

pub loop-step-init : goal.loop-step-init
loop-step-init g c = (omega arith, refl, λ f calls h. record { since = calls; led = h; tells = refl })

pub loop-step-preserved : goal.loop-step-preserved
loop-step-preserved g c =
    let inv = c.loop-step.invariant in
    let put = c.push_reserved.ensures in (
      omega (arith, put.len, inv.0),
      put.capacity ∙ inv.1,
      λ f calls h.
          let a = inv.2 f calls h in
          step_played c.args.steps.now c.loop-step.step-index _ (vec_items c.args.answers.now) (vec_items c.loop-step.answers) (vec_items c.push_reserved.new.self) c.loop-step.link c.play.new.link c.play.result
          c.loop-step-test.true a (c.play.ensures f a.since a.led) put.items,
    )

pub returns : goal.returns
returns g c f calls h =
    all_played c.args.steps.now _ (vec_items c.args.answers.now) (vec_items c.loop-step.answers) c.loop-step.link (drop_all c.loop-step.step-index c.args.steps.now c.loop-step-test.false) (c.loop-step.invariant.2 f calls h)
