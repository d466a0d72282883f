-- One adding after the other, up to the first that is refused. Assumes nothing.
use Rattle.std.proofs.Common.{◌≡◌, ℕ, ◌+◌, ◌<◌, ◌≤◌, List, length, get_or, take, drop, Ok, Err, Result, sym, refl, ap, ◌∙◌, subst}
use Rattle.std.proofs.lemmas.List.{take_more, drop_more, drop_all}
use Rattle.waiting_line.specs.declared.line.WaitingLine.{Ghosts as WaitingLine}
use Rattle.tick_machine.specs.declared.refusal.Refusal.{Refusal}
use Rattle.tick_machine.specs.Machine.{Config}
use Rattle.tick_machine.specs.Life.{added, drafted}
use Rattle.link.specs.declared.draft.Draft.{Draft}
use Rattle.link.specs.Drafting.{Drafts, Adds}
use Rattle.link.proofs.Drafts.{drafted_push}
use Rattle.port.specs.Preparing.{if_added, all_added, AddsAll}

-- how far the addings have come: so many are done, and the others are left
abbrev pub Come : {W : Type 0} (line : WaitingLine W) → Config → List ℕ → ℕ → Draft W → Type 0
Come line c ws i d = Drafts line (drafted c (take i ws)) d × (all_added c ws ≡ all_added (drafted c (take i ws)) (drop i ws))

module _ {W : Type 0} {line : WaitingLine W} {d d' : Draft W} (c : Config) (ws : List ℕ) (i z : ℕ) (h : i < length ws) (r : Result ℕ Refusal) (p : Come line c ws i d)
    (a : Adds line (drafted c (take i ws)) d (get_or ws i z) r d') where
  here : all_added c ws ≡ if_added r (all_added (added (drafted c (take i ws)) (get_or ws i z)) (drop (i + 1) ws))
  here = p.1 ∙ ap (all_added (drafted c (take i ws))) (drop_more ws i z h) ∙ ap (λ (x : Result ℕ Refusal). if_added x (all_added (added (drafted c (take i ws)) (get_or ws i z)) (drop (i + 1) ws))) (sym a.told)

  pub come_further : (s : ℕ) → r ≡ Ok s → Come line c ws (i + 1) d'
  come_further s e =
      let same : drafted c (take (i + 1) ws) ≡ added (drafted c (take i ws)) (get_or ws i z) = ap (drafted c) (take_more ws i z h) ∙ drafted_push c (take i ws) (get_or ws i z) in
      (subst (λ (x : Config). Drafts line x d') (sym same) a.drafts, here ∙ ap (λ (x : Result ℕ Refusal). if_added x (all_added (added (drafted c (take i ws)) (get_or ws i z)) (drop (i + 1) ws))) e ∙ ap (λ (x : Config). all_added x (drop (i + 1) ws)) (sym same))

  pub come_refused : (x : Refusal) → r ≡ Err x → AddsAll line (all_added c ws) (Err x) d'
  come_refused x e =
      subst (λ (y : Result Config Refusal). AddsAll line y (Err x) d') (sym (here ∙ ap (λ (y : Result ℕ Refusal). if_added y (all_added (added (drafted c (take i ws)) (get_or ws i z)) (drop (i + 1) ws))) e)) refl

pub come_all : {W : Type 0} {line : WaitingLine W} {d : Draft W} (c : Config) (ws : List ℕ) (i : ℕ) → length ws ≤ i → Come line c ws i d
    → AddsAll line (all_added c ws) (Ok tt) d
come_all {line} {d} c ws i l p =
    subst (λ (y : Result Config Refusal). AddsAll line y (Ok tt) d) (sym (p.1 ∙ ap (all_added (drafted c (take i ws))) (drop_all i ws l))) p.0
