-- One record more. Assumes nothing.
use Rattle.std.proofs.Common.{◌≡◌, ℕ, ◌+◌, ◌<◌, List, [], ◌∷◌, ◌++◌, length, get_or, take, drop, set, sym, refl, ap, ◌∙◌, subst, arith}
use Rattle.std.proofs.lemmas.List.{take_more, take_more_set, drop-set-lt, drop-drop}
use Rattle.waiting_line.specs.declared.line.WaitingLine.{Ghosts as WaitingLine}
use Rattle.slot_clock.specs.declared.clock.SlotClock.{Ghosts as SlotClock}
use Rattle.tick_machine.specs.declared.call.Call.{Call}
use Rattle.tick_machine.specs.Machine.{Config}
use Rattle.replay.specs.Hand.{InHand, Held}
use Rattle.port.specs.declared.records.CallRecord.{CallRecord}
use Rattle.port.specs.declared.records.AnswerRecord.{AnswerRecord}
use Rattle.port.specs.Records.{call_in}
use Rattle.port.specs.Turns.{grown, grown_by, reply, replies, Turned, TurnedAll}

grown_push : (done : List Call) (rs : List CallRecord) (r : CallRecord) → grown_by done (rs ++ r ∷ []) ≡ grown (grown_by done rs) (call_in r)
grown_push done [] r = refl
grown_push done (x ∷ rs) r = grown_push (grown done (call_in x)) rs r

replies_push : (c : Config) (done : List Call) (rs : List CallRecord) (r : CallRecord) → replies c done (rs ++ r ∷ []) ≡ replies c done rs ++ reply c (grown_by done rs) (call_in r) ∷ []
replies_push c done [] r = refl
replies_push c done (x ∷ rs) r = ap (λ ys. reply c done (call_in x) ∷ ys) (replies_push c (grown done (call_in x)) rs r)

module _ {W S : Type 0} {line : WaitingLine W} {clock : SlotClock S} where
  pub turned_more : {c : Config} {d d' : InHand W S} (rs : List CallRecord) (i : ℕ) (z : CallRecord) → i < length rs → (was said : List AnswerRecord) (a : AnswerRecord) → i < length said
      → TurnedAll line clock c i rs was said d → Turned line clock c (grown_by [] (take i rs)) (get_or rs i z) a d'
      → TurnedAll line clock c (i + 1) rs was (set said i a) d'
  turned_more {c} {d} {d'} rs i z h was said a k p t =
      let r = get_or rs i z in
      let e : take (i + 1) rs ≡ take i rs ++ r ∷ [] = take_more rs i z h in
      record {
        held = subst (λ (x : List Call). Held line clock c x d') (sym (ap (grown_by []) e ∙ grown_push [] (take i rs) r)) t.held;
        told = take_more_set said i a k ∙ (λ j. p.told j ++ t.told j ∷ []) ∙ sym (ap (replies c []) e ∙ replies_push c [] (take i rs) r);
        rest = drop-set-lt (i + 1) said i a (omega arith) ∙ sym (drop-drop 1 i said) ∙ ap (drop 1) p.rest ∙ drop-drop 1 i was;
      }
