use Rattle.std.proofs.Common.{◌≡◌, ℕ, ◌≤◌, List, length, take, replicate, refl, sym, ap, ◌∙◌, arith}
use lib.ListN.{length-replicate}
use Rattle.std.proofs.lemmas.List.{take-replicate}
use Rattle.slot_clock.specs.Calls.{no_zero, made_answer}
use Rattle.slot_clock.specs.Held.{held_state}
use Rattle.slot_clock.proofs.Making.{starts_tops, starts_sum, made}
use Rattle.slot_clock.proofs.held.Held.make.Goals as goal

fresh_nexts : (ws given next zeros : List ℕ) → ws ≡ given → length ws ≤ 64 → next ≡ take (length given) zeros → zeros ≡ replicate 64 0 → next ≡ replicate (length ws) 0
fresh_nexts ws given next zeros e few n z =
    n ∙ ap (take (length given)) z ∙ take-replicate (length given) 64 0 (omega (arith, few, ap length e)) ∙ ap (λ n. replicate n 0) (sym (ap length e))

pub invariant_of-result : goal.invariant_of-result
invariant_of-result c =
    let l = c.in_ok-layout.layout in
    let ws = l.weights.items in
    let next = c.truncate.new.self.items in
    let none = fresh_nexts ws c.args.weights.now next c.from-next.result.items c.in_ok-layout.ensures.0 l.few c.truncate.ensures.items c.from-next.ensures.0 in
    record {
      small = c.in_ok-layout.ensures.1;
      each = ap no_zero c.in_ok-layout.ensures.0 ∙ c.in_ok-layout.ensures.2;
      same = ap length none ∙ length-replicate (length ws) (let z : ℕ = 0 in z);
      tops = starts_tops ws next none;
      paced = omega arith;
      few = omega arith;
      sum = starts_sum ws next none;
      inside = omega arith;
    }

pub returns : goal.returns
unfolding held_state
returns c =
    let l = c.in_ok-layout.layout in
    let ws = l.weights.items in
    let given : ws ≡ c.args.weights.now = c.in_ok-layout.ensures.0 in
    let none = fresh_nexts ws c.args.weights.now c.truncate.new.self.items c.from-next.result.items given l.few c.truncate.ensures.items c.from-next.ensures.0 in
    record {
      made = made ws c.truncate.new.self.items none l.slots l.few l.whole l.some c.in_ok-layout.ensures.1 (ap no_zero given ∙ c.in_ok-layout.ensures.2) ∙ ap made_answer given;
      fresh = (refl, none);
    }
