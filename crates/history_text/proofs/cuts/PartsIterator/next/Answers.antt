use Rattle.std.proofs.Common.{◌≡◌, Some, ap, ◌∙◌, arith, rules}
use Rattle.std.proofs.lemmas.Grind.{common_steps}
use Rattle.history_text.specs.Parts.{left_in}
use Rattle.history_text.proofs.Parting.{cut_at, cut_nowhere}
use Rattle.history_text.proofs.cuts.PartsIterator.next.Goals as goal

pub returns-in-Some-clause-steps : goal.returns-in-Some-clause-steps
returns-in-Some-clause-steps c =
    let w : c.args.self.now.rest ≡ Some c.in_ok-text.text = search rules in
    ap (left_in c.args.self.now.at) w ∙ cut_at c.args.self.now.at c.in_ok-text.text.now c.in-Some.end (search rules)

pub returns-in-Some-clause-goes : goal.returns-in-Some-clause-goes
returns-in-Some-clause-goes c =
    let w : c.args.self.now.rest ≡ Some c.in_ok-text.text = search rules in
    let e = ap (left_in c.args.self.now.at) w ∙ cut_at c.args.self.now.at c.in_ok-text.text.now c.in-Some.end (search rules) in
    grind (arith, common_steps)

pub returns-in-None-clause-steps : goal.returns-in-None-clause-steps
returns-in-None-clause-steps c =
    let w : c.args.self.now.rest ≡ Some c.in_ok-text.text = search rules in
    ap (left_in c.args.self.now.at) w ∙ cut_nowhere c.args.self.now.at c.in_ok-text.text.now (search rules)

pub returns-in-None-clause-goes : goal.returns-in-None-clause-goes
returns-in-None-clause-goes c =
    let w : c.args.self.now.rest ≡ Some c.in_ok-text.text = search rules in
    let e = ap (left_in c.args.self.now.at) w ∙ cut_nowhere c.args.self.now.at c.in_ok-text.text.now (search rules) in
    grind (arith, common_steps)
