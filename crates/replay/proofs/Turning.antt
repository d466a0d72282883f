-- One call more, and one adding more. Assumes nothing.
use Rattle.std.proofs.Common.{◌≡◌, ℕ, ◌+◌, ◌<◌, List, [], ◌∷◌, ◌++◌, reverse, length, get_or, take, Result, sym, refl, ap, ◌∙◌, subst, append_assoc}
use mathlib.Core.List.{reverse-append}
use Rattle.std.proofs.lemmas.List.{take_more}
use Rattle.waiting_line.specs.declared.line.WaitingLine.{Ghosts as WaitingLine}
use Rattle.slot_clock.specs.declared.clock.SlotClock.{Ghosts as SlotClock}
use Rattle.tick_machine.specs.declared.refusal.Refusal.{Refusal}
use Rattle.tick_machine.specs.declared.call.Call.{Call}
use Rattle.tick_machine.specs.declared.call.Call.TheVariants.{MoveTo}
use Rattle.tick_machine.specs.declared.call.Answer.{Answer}
use Rattle.tick_machine.specs.declared.call.Answer.TheVariants.{Added}
use Rattle.tick_machine.specs.Machine.{Config}
use Rattle.tick_machine.specs.Life.{adding, added, drafted, told, move, after, answers}
use Rattle.link.specs.declared.draft.Draft.{Draft}
use Rattle.link.specs.declared.link.Link.{Link}
use Rattle.link.specs.declared.slip.Slip.{Slip}
use Rattle.link.specs.Promise.{Goes}
use Rattle.link.specs.Drafting.{Drafts, Adds}
use Rattle.link.proofs.Drafts.{drafted_push}
use Rattle.link.proofs.Outs.{move_out}
use Rattle.replay.specs.History.{adding_answers}
use Rattle.replay.specs.Hand.{InHand, Held, Answered, Called, AddedAll}

-- packets out after a clock move
move_to_out : (c : Config) (calls : List Call) (t : ℕ) → (after c (MoveTo t ∷ calls)).desk.out ≡ (after c calls).desk.out
move_to_out c calls t = move_out c (after c calls) (move c t (after c calls)) _

module _ {W S : Type 0} {line : WaitingLine W} {clock : SlotClock S} where
  -- a call that changes no packet out
  stays : {c : Config} {calls : List Call} {l l' : Link W S} {ss : List Slip} {call : Call} {said : Answer}
      → Held line clock c calls (record { link = l; slips = ss }) → Goes line clock c calls l call said l' → (after c (call ∷ calls)).desk.out ≡ (after c calls).desk.out
      → Held line clock c (call ∷ calls) (record { link = l'; slips = ss })
  stays h g e = record { led = g.led; out = h.out ∙ sym e; own = h.own }

  -- a clock move
  pub moved_answered : {c : Config} {calls : List Call} {l l' : Link W S} {ss : List Slip} {call : Call} {t : ℕ} {was said : Answer}
      → Held line clock c calls (record { link = l; slips = ss }) → call ≡ MoveTo t → said ≡ was → Goes line clock c calls l (MoveTo t) was l'
      → Answered line clock c calls call said (record { link = l'; slips = ss })
  moved_answered {c} {calls} {l} {l'} {ss} {call} {t} {was} {said} h e q g =
      subst (λ (x : Call). Answered line clock c calls x said (record { link = l'; slips = ss })) (sym e) (record { held = stays h g (move_to_out c calls t); told = q ∙ g.told })

  -- one call more of a list
  pub called_more : {c : Config} {d d' : InHand W S} (cs : List Call) (i : ℕ) (z : Call) → i < length cs → (before xs ys : List Answer) (a : Answer)
      → Called line clock c (take i cs) before d xs → ys ≡ xs ++ a ∷ [] → Answered line clock c (reverse (take i cs)) (get_or cs i z) a d'
      → Called line clock c (take (i + 1) cs) before d' ys
  called_more {c} {d} {d'} cs i z h before xs ys a p f g =
      let r : reverse (take (i + 1) cs) ≡ get_or cs i z ∷ reverse (take i cs) = ap reverse (take_more cs i z h) ∙ reverse-append (take i cs) (get_or cs i z ∷ []) in
      record {
        held = subst (λ (x : List Call). Held line clock c x d') (sym r) g.held;
        told = f ∙ (λ k. p.told k ++ g.told k ∷ []) ∙ append_assoc before (answers c (reverse (take i cs))) _ ∙ ap (λ (x : List Call). before ++ answers c x) (sym r);
      }

-- the answers to one adding more
adding_push : (c : Config) (ws : List ℕ) (w : ℕ) → adding_answers c (ws ++ w ∷ []) ≡ adding_answers c ws ++ told Added (adding (drafted c ws) w) ∷ []
adding_push c [] w = refl
adding_push c (x ∷ ws) w = ap (λ (y : List Answer). told Added (adding c x) ∷ y) (adding_push (added c x) ws w)

module _ {W : Type 0} {line : WaitingLine W} where
  -- one adding more of a list
  pub added_more : {c : Config} {d d' : Draft W} (ws : List ℕ) (i z : ℕ) → i < length ws → (before xs ys : List Answer) (a : Answer) (r : Result ℕ Refusal)
      → AddedAll line c (take i ws) before d xs → ys ≡ xs ++ a ∷ [] → a ≡ told Added r → Adds line (drafted c (take i ws)) d (get_or ws i z) r d'
      → AddedAll line c (take (i + 1) ws) before d' ys
  added_more {c} {d} {d'} ws i z h before xs ys a r p f q g =
      let w = get_or ws i z in
      let e : take (i + 1) ws ≡ take i ws ++ w ∷ [] = take_more ws i z h in
      let same : drafted c (take (i + 1) ws) ≡ added (drafted c (take i ws)) w = ap (drafted c) e ∙ drafted_push c (take i ws) w in
      let said : a ≡ told Added (adding (drafted c (take i ws)) w) = q ∙ ap (told Added) g.told in
      record {
        drafts = subst (λ (x : Config). Drafts line x d') (sym same) g.drafts;
        told = f ∙ (λ k. p.told k ++ said k ∷ []) ∙ append_assoc before (adding_answers c (take i ws)) _
            ∙ ap (λ (x : List Answer). before ++ x) (sym (adding_push c (take i ws) w) ∙ ap (adding_answers c) (sym e));
      }
