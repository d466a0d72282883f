-- Slips in hand: taking one, putting one in, and what a settlement leaves. Assumes nothing.
use Rattle.std.proofs.Common.{◌≡◌, ℕ, zero, suc, ◌<◌, List, [], ◌∷◌, ◌++◌, length, get_or, Ok, Err, sym, refl, ap, ◌∙◌, subst, arith}
use lib.ListN.{length-map}
use Rattle.std.proofs.lemmas.List.{get_or-map}
use Rattle.std.specs.List.{remove}
use Rattle.waiting_line.specs.declared.line.WaitingLine.{Ghosts as WaitingLine}
use Rattle.slot_clock.specs.declared.clock.SlotClock.{Ghosts as SlotClock}
use Rattle.tick_machine.specs.declared.refusal.Refusal.{Refusal}
use Rattle.tick_machine.specs.declared.refusal.Refusal.TheVariants.{OtherLink, NotOut}
use Rattle.tick_machine.specs.declared.call.Call.{Call}
use Rattle.tick_machine.specs.declared.call.Settlement.{Settlement}
use Rattle.tick_machine.specs.declared.call.Settlement.TheVariants as how
use Rattle.tick_machine.specs.declared.call.Answer.TheVariants.{Filed, Returned, Refused}
use Rattle.tick_machine.specs.Machine.{Config}
use Rattle.tick_machine.specs.Life.{settlement, settling, granted, told, filed, returned, steps, if_granted, after}
use Rattle.tick_machine.specs.Lists.{none, more}
use Rattle.tick_machine.specs.Desk.{among}
use Rattle.link.specs.declared.link.Link.{Link}
use Rattle.link.specs.declared.slip.Slip.{Slip}
use Rattle.link.specs.Promise.{settled, Goes}
use Rattle.link.specs.Places.{At, Nowhere}
use Rattle.link.proofs.Slips.{at_among, at_without, nowhere_among, other_link, not_out, is_out, settle_refused}
use Rattle.replay.specs.History.{packets, OfLink}
use Rattle.replay.specs.Hand.{Held, Answered, Taken, Missing}

-- some slip, for reads past the end
blank : Slip
blank = record { says = record { link = 0; packet = 0; session = 0; size = 0; tag = 0; started = 0; left = 0 } }

read_number : (ss : List Slip) (i d : ℕ) → i < length (packets ss) → get_or (packets ss) i d ≡ (get_or ss i blank).says.packet
read_number ss i d l = get_or-map (λ (s : Slip). s.says.packet) ss i blank d (omega (arith, l, length-map ss (λ (s : Slip). s.says.packet)))

-- where a slip stands, the number of its packet stands among the numbers
at_numbers : (k : ℕ) (ss : List Slip) (i : ℕ) → At (λ (s : Slip). s.says.packet) k ss i → At (λ n. n) k (packets ss) i
at_numbers k ss i a =
    let within : i < length (packets ss) = omega (arith, a.within, length-map ss (λ (s : Slip). s.says.packet)) in
    record {
      within = within;
      here = λ d. read_number ss i d within ∙ a.here blank;
      before = λ j d l e. a.before j blank l (sym (read_number ss j d (omega (arith, l, within))) ∙ e);
    }

nowhere_numbers : (k : ℕ) (ss : List Slip) → Nowhere (λ (s : Slip). s.says.packet) k ss → Nowhere (λ n. n) k (packets ss)
nowhere_numbers k ss h j d l e = h j blank (omega (arith, l, length-map ss (λ (s : Slip). s.says.packet))) (sym (read_number ss j d l) ∙ e)

-- the numbers of what is left after one is taken out
removed_numbers : (ss : List Slip) (i : ℕ) → packets (remove ss i) ≡ remove (packets ss) i
removed_numbers [] zero = refl
removed_numbers [] (suc i) = refl
removed_numbers (s ∷ ss) zero = refl
removed_numbers (s ∷ ss) (suc i) = ap (λ ns. s.says.packet ∷ ns) (removed_numbers ss i)

all_removed : (n : ℕ) (ss : List Slip) (i : ℕ) → OfLink n ss → OfLink n (remove ss i)
all_removed n [] zero a = none
all_removed n [] (suc i) a = none
all_removed n (s ∷ ss) zero (more h a) = a
all_removed n (s ∷ ss) (suc i) (more h a) = more h (all_removed n ss i a)

all_at : (n : ℕ) (ss : List Slip) (i : ℕ) (s : Slip) → i < length ss → s ≡ get_or ss i s → OfLink n ss → s.says.link ≡ n
all_at n [] i s l e a = absurd (omega arith)
all_at n (x ∷ ss) zero s l e (more h a) = ap (λ (y : Slip). y.says.link) e ∙ h
all_at n (x ∷ ss) (suc i) s l e (more h a) = all_at n ss i s (omega (arith, l)) e a

pub all_push : (n : ℕ) (ss : List Slip) (s : Slip) → OfLink n ss → s.says.link ≡ n → OfLink n (ss ++ s ∷ [])
all_push n [] s a e = more e none
all_push n (x ∷ ss) s (more h a) e = more h (all_push n ss s a e)

pub is_taken : (own number k : ℕ) (ss ss' : List Slip) (i : ℕ) (s : Slip) → number ≡ own → At (λ (s : Slip). s.says.packet) k ss i → s ≡ get_or ss i s → ss' ≡ remove ss i → Taken own number k ss s ss'
is_taken own number k ss ss' i s e a r q =
    let at = at_numbers k ss i a in
    record {
      here = e;
      packet_is = ap (λ (x : Slip). x.says.packet) r ∙ a.here s;
      there = at_among k (packets ss) i at;
      rest = ap packets q ∙ removed_numbers ss i ∙ at_without k (packets ss) i at;
      link_is = λ n o. all_at n ss i s a.within r o;
      rest_own = λ n o. subst (OfLink n) (sym q) (all_removed n ss i o);
    }

pub of_other : (own number k : ℕ) (ss : List Slip) → (number ≡ own → ⊥) → Missing own number k ss OtherLink ss
of_other own number k ss d = record { refused = λ c m e o. other_link c number k m (λ x. d (x ∙ e)); same = refl }

pub not_in_hand : (own number k : ℕ) (ss : List Slip) → number ≡ own → Nowhere (λ (s : Slip). s.says.packet) k ss → Missing own number k ss NotOut ss
not_in_hand own number k ss h w = record {
  refused = λ c m e o. not_out c number k m (h ∙ sym e) (ap (among k) (sym o) ∙ nowhere_among k (packets ss) (nowhere_numbers k ss w));
  same = refl;
}

module _ {W S : Type 0} {line : WaitingLine W} {clock : SlotClock S} {c : Config} {calls : List Call} {l : Link W S} {ss ss' : List Slip} {s : Slip} (own number packet : ℕ)
    (h : Held line clock c calls (record { link = l; slips = ss })) (t : Taken own number packet ss s ss') where
  granted_there : settlement c s.says.link s.says.packet (after c calls) ≡ Ok s.says.packet
  granted_there = is_out c s.says.link s.says.packet (after c calls) (t.link_is c.link h.own) (ap (λ k. among k (after c calls).desk.out) t.packet_is ∙ ap (among packet) (sym h.out) ∙ t.there)

  -- a slip in hand is never refused
  pub in_hand_granted : (e : Refusal) (b : Slip) (l' : Link W S) (w : Settlement) → Goes line clock c calls l (settling w s.says.link s.says.packet) (settled (granted w) (Err (e, b))) l' → ⊥
  in_hand_granted e b l' how.File g = let f : Refused e ≡ Filed s.says.packet = g.told ∙ ap (told Filed) granted_there in let z : ◌≡◌ {A = ℕ} 0 1 = cc in omega arith
  in_hand_granted e b l' how.Return g = let f : Refused e ≡ Returned s.says.packet = g.told ∙ ap (told Returned) granted_there in let z : ◌≡◌ {A = ℕ} 0 1 = cc in omega arith

module _ {W S : Type 0} {line : WaitingLine W} {clock : SlotClock S} {c : Config} {calls : List Call} {l : Link W S} {ss ss' : List Slip} (own number packet : ℕ) (e : Refusal)
    (h : Held line clock c calls (record { link = l; slips = ss })) (m : Missing own number packet ss e ss') (same : c.link ≡ own) where
  refused : settlement c number packet (after c calls) ≡ Err e
  refused = m.refused c (after c calls) same h.out

  nothing : (w : Settlement) → (after c (settling w number packet ∷ calls)).desk.out ≡ (after c calls).desk.out
  nothing how.File = ap (λ r. (steps c (if_granted r (filed packet ∷ [])) (after c calls)).desk.out) refused
  nothing how.Return = ap (λ r. (steps c (if_granted r (returned packet ∷ [])) (after c calls)).desk.out) refused

  -- a settlement of a slip that is not in hand is answered as the machine answers it
  pub missing_answered : (w : Settlement) → Answered line clock c calls (settling w number packet) (Refused e) (record { link = l; slips = ss' })
  missing_answered w =
      let g = settle_refused h.led number packet w e blank refused in
      record {
        held = record {
          led = g.led;
          out = ap packets m.same ∙ h.out ∙ sym (nothing w);
          own = subst (OfLink c.link) (sym m.same) h.own;
        };
        told = g.told;
      }
