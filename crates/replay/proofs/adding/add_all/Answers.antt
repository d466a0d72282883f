use Rattle.std.proofs.Common.{◌≡◌, ℕ, List, vec_items, ◌∙◌, subst, arith, take_all, rules}
use Rattle.tick_machine.specs.declared.call.Answer.TheVariants.{Added}
use Rattle.tick_machine.specs.Life.{told}
use Rattle.replay.specs.Hand.{AddedAll}
use Rattle.replay.proofs.Turning.{added_more}
use Rattle.replay.proofs.adding.add_all.Goals as goal

pub loop-weight-preserved : goal.loop-weight-preserved
loop-weight-preserved g c =
    let inv = c.loop-weight.invariant in
    let said = c.push_reserved.ensures in
    let said_of : c.map_or_else.result ≡ told Added c.add.result = search rules in (
      omega (arith, said.len, inv.0),
      said.capacity ∙ inv.1,
      λ f h.
          added_more c.args.addings.now c.loop-weight.weight-index _ c.loop-weight-test.true _ _ _ c.map_or_else.result c.add.result (inv.2 f h) said.items said_of (c.add.ensures.added _ (inv.2 f h).drafts),
    )

pub returns : goal.returns
returns g c =
    let inv = c.loop-weight.invariant in
    let t = take_all c.loop-weight.weight-index c.args.addings.now (omega arith) in
    record {
      added = λ f h.
          subst (λ (x : List ℕ). AddedAll g.W.WaitingLine f x (vec_items c.args.answers.now) c.loop-weight.draft (vec_items c.loop-weight.answers)) t (inv.2 f h);
      many = omega (arith, inv.0);
      room = inv.1;
    }
