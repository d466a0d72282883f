use Rattle.std.proofs.Common.{◌+◌, vec_items, sym, refl, ap, ◌∙◌, arith}
use Rattle.tick_machine.specs.Slots.{round_length}
use Rattle.slot_clock.specs.Calls.{no_zero}
use Rattle.link.proofs.Drafts.{no_zero_push, round_push, session_added}
use Rattle.link.proofs.draft.Draft.add.Goals as goal

pub invariant_of-self-clause-sum : goal.invariant_of-self-clause-sum
invariant_of-self-clause-sum g c = ap (λ n. n + c.args.weight) c.args.self.now.sum ∙ sym (round_push _ c.args.weight) ∙ ap round_length (sym c.push_reserved.ensures.items)

pub invariant_of-self-clause-weighty : goal.invariant_of-self-clause-weighty
invariant_of-self-clause-weighty g c = ap no_zero c.push_reserved.ensures.items ∙ no_zero_push (vec_items c.args.self.now.weights) c.args.weight (omega arith) c.args.self.now.weighty

pub returns : goal.returns
returns g c = record {
  added = λ f h. session_added h c.args.weight _ _ c.len-session.ensures (omega arith) (omega arith) (omega arith) c.args.self.now.sum c.push_reserved.ensures.items refl refl refl;
  unchanged = tt;
}
