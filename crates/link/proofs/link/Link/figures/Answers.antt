use Rattle.std.proofs.Common.{ℕ, ◌^◌, ◌<◌, sym, ◌∙◌, subst, arith, w64, SFits, to_z, of_z, rules}
use Rattle.std.proofs.lemmas.Int.{to_z-of_z}
use Rattle.link.proofs.Readings.{figures_refused, sent_small, served_small, figures_goes, lead_bounded}
use Rattle.link.proofs.link.Link.figures.Goals as goal

pub returns-then-session-len : goal.returns-then-session-len
returns-then-session-len g c = record { keeps = λ f calls h. figures_refused h c.args.session (omega arith); lead = tt }

pub returns : goal.returns
returns g c =
    let i = c.args.session in
    let r = c.index-record.result.now in
    let is = c.index-record.ensures in
    let owed = c.in_ok-owed.owed in
    let owes = c.in_ok-owed.ensures in
    let served = c.saturating_sub-served.result in
    let ev = c.saturating_sub-served.ensures in
    let z = c.lead_of-lead.result in
    let fits : SFits w64 z = search rules in
    let stored = to_z w64 (of_z w64 z) in
    record {
      keeps = λ f calls h.
          let lead = c.lead_of-lead.ensures (sent_small h i (omega arith) r is owed owes) (subst (λ (x : ℕ). x < 2 ^ 63) (sym ev) (served_small h i (omega arith) r is owed owes)) in
          figures_goes h i (omega arith) r is owed owes served stored c.bytes_of-waiting.result ev (to_z-of_z w64 z fits ∙ lead) _ c.deref.ensures.value c.bytes_of-waiting.ensures;
      lead = λ f calls h some.
          let lead = c.lead_of-lead.ensures (sent_small h i (omega arith) r is owed owes) (subst (λ (x : ℕ). x < 2 ^ 63) (sym ev) (served_small h i (omega arith) r is owed owes)) in
          lead_bounded h i (omega arith) r is owed owes served stored c.bytes_of-waiting.result ev (to_z-of_z w64 z fits ∙ lead) some;
    }
