-- Collections and settlements go as promised. Assumes nothing.
use Rattle.std.proofs.Common.{◌≡◌, ℕ, zero, suc, ◌+◌, ◌<◌, ◌≤◌, min, true, false, eqb, List, [], ◌∷◌, ◌++◌, map, length, get_or, Option, Some, None, Ok, Err, vec_items, vec_len, Result, IfOk, MatchOption, MatchResult, sym, refl, ap, ◌∙◌, subst, arith, deque_items, deque_len, drop}
use Rattle.std.proofs.lemmas.Bool.{eq-eqb, ne_eqb, or_left, or_right, or_from, cond-true, cond-false}
use Rattle.std.specs.List.{remove}
use Rattle.std.specs.Option.{ok_or}
use Rattle.waiting_line.specs.declared.line.WaitingLine.{Ghosts as WaitingLine}
use Rattle.slot_clock.specs.declared.clock.SlotClock.{Ghosts as SlotClock}
use Rattle.tick_machine.specs.declared.packet.Departed.{Departed}
use Rattle.tick_machine.specs.declared.refusal.Refusal.{Refusal}
use Rattle.tick_machine.specs.declared.refusal.Refusal.TheVariants.{OtherLink, NotOut}
use Rattle.tick_machine.specs.declared.call.Call.{Call}
use Rattle.tick_machine.specs.declared.call.Call.TheVariants.{Collect}
use Rattle.tick_machine.specs.declared.call.Settlement.{Settlement}
use Rattle.tick_machine.specs.declared.call.Settlement.TheVariants as how
use Rattle.tick_machine.specs.declared.call.Answer.TheVariants.{Collected}
use Rattle.tick_machine.specs.Desk.{Desk, first, rest, handed, slip, among, without, hand_out, file, return}
use Rattle.tick_machine.specs.Machine.{Config, Machine, with_desk}
use Rattle.tick_machine.specs.Life.{settlement, settling, granted, slip_of, told, answer, Event, filed, returned, step, steps, happens, if_granted, after}
use Rattle.tick_machine.specs.Law.{Lawful}
use Rattle.tick_machine.specs.Books.{TotalsAddUp}
use Rattle.tick_machine.proofs.Stands.{totals_do_add_up, after_calls}
use Rattle.link.specs.declared.link.Link.{Link}
use Rattle.link.specs.declared.slip.Slip.{Slip}
use Rattle.link.specs.Places.{At, Nowhere}
use Rattle.link.specs.Shown.{Shown}
use Rattle.link.specs.Promise.{is_refused, collected_as, settled, Led, Goes}
use Rattle.link.proofs.Tables.{none_there}
use Rattle.link.proofs.Reached.{lawful, reached_small}

-- what stands somewhere is among them, and is taken out there
later : (k x : ℕ) (xs : List ℕ) (i : ℕ) → At (λ n. n) k (x ∷ xs) (suc i) → At (λ n. n) k xs i
later k x xs i a = record { within = omega (arith, a.within); here = a.here; before = λ j d l. a.before (suc j) d (omega arith) }

pub at_among : (k : ℕ) (xs : List ℕ) (i : ℕ) → At (λ n. n) k xs i → among k xs ≡ true
at_among k [] i a = absurd (omega (arith, a.within))
at_among k (x ∷ xs) zero a = or_left _ _ (eq-eqb _ _ (a.here x))
at_among k (x ∷ xs) (suc i) a = or_right _ _ (at_among k xs i (later k x xs i a))

pub at_without : (k : ℕ) (xs : List ℕ) (i : ℕ) → At (λ n. n) k xs i → remove xs i ≡ without k xs
at_without k [] i a = absurd (omega (arith, a.within))
at_without k (x ∷ xs) zero a = sym (cond-true (eqb x k) xs (x ∷ without k xs) (eq-eqb _ _ (a.here x)))
at_without k (x ∷ xs) (suc i) a =
    ap (λ ys. x ∷ ys) (at_without k xs i (later k x xs i a)) ∙ sym (cond-false (eqb x k) xs (x ∷ without k xs) (ne_eqb _ _ (a.before 0 x (omega arith))))

pub nowhere_among : (k : ℕ) (xs : List ℕ) → Nowhere (λ n. n) k xs → among k xs ≡ false
nowhere_among k [] h = refl
nowhere_among k (x ∷ xs) h = or_from _ _ (ne_eqb _ _ (h 0 x (omega arith))) (nowhere_among k xs (λ j d l. h (suc j) d (omega arith)))

-- the two checks of a settlement
pub other_link : (c : Config) (link k : ℕ) (m : Machine) → (link ≡ c.link → ⊥) → settlement c link k m ≡ Err OtherLink
other_link c link k m d = cond-false (eqb link c.link) _ _ (ne_eqb _ _ d)

pub not_out : (c : Config) (link k : ℕ) (m : Machine) → link ≡ c.link → among k m.desk.out ≡ false → settlement c link k m ≡ Err NotOut
not_out c link k m e a = cond-true (eqb link c.link) _ _ (eq-eqb _ _ e) ∙ cond-false (among k m.desk.out) _ _ a

pub is_out : (c : Config) (link k : ℕ) (m : Machine) → link ≡ c.link → among k m.desk.out ≡ true → settlement c link k m ≡ Ok k
is_out c link k m e a = cond-true (eqb link c.link) _ _ (eq-eqb _ _ e) ∙ cond-true (among k m.desk.out) _ _ a

-- what is found is out, and what is not found is refused
module _ (k : ℕ) (xs : List ℕ) where
  abbrev pub Placed : Option ℕ → Type 0
  Placed o = MatchOption o (Nowhere (λ n. n) k xs) (λ i. At (λ n. n) k xs i)

  pub found_at : (o : Option ℕ) → Placed o → IfOk (ok_or o NotOut) (λ i. At (λ n. n) k xs i)
  found_at None h = tt
  found_at (Some i) h = h

  pub found_or_not : (c : Config) (link : ℕ) (m : Machine) → link ≡ c.link → xs ≡ m.desk.out → (o : Option ℕ) → Placed o
      → MatchResult (ok_or o NotOut) (λ _. settlement c link k m ≡ Ok k) (λ e. settlement c link k m ≡ Err e)
  found_or_not c link m e ex None h = not_out c link k m e (ap (among k) (sym ex) ∙ nowhere_among k xs h)
  found_or_not c link m e ex (Some i) h = is_out c link k m e (ap (among k) (sym ex) ∙ at_among k xs i h)

-- what a settlement does, where it is granted
abbrev closing : Settlement → ℕ → Event
closing how.File k = filed k
closing how.Return k = returned k

happens_settling : (w : Settlement) (c : Config) (link k : ℕ) (m : Machine) → happens c m (settling w link k) ≡ if_granted (settlement c link k m) (closing w k ∷ [])
happens_settling how.File c link k m = refl
happens_settling how.Return c link k m = refl

answer_settling : (w : Settlement) (c : Config) (link k : ℕ) (m : Machine) → answer c m (settling w link k) ≡ told (granted w) (settlement c link k m)
answer_settling how.File c link k m = refl
answer_settling how.Return c link k m = refl

not_refused : (w : Settlement) (k : ℕ) → is_refused (granted w k) ≡ true → ⊥
not_refused how.File k q = let y : ◌≡◌ {A = ℕ} 0 1 = cc in omega arith
not_refused how.Return k q = let y : ◌≡◌ {A = ℕ} 0 1 = cc in omega arith

-- one more is counted
abbrev pub Counted : {W S : Type 0} → Settlement → Link W S → Link W S → Type 0
Counted how.File l l' = (l'.filed ≡ min (l.filed + 1) 18446744073709551615) × (l'.returned ≡ l.returned)
Counted how.Return l l' = (l'.filed ≡ l.filed) × (l'.returned ≡ min (l.returned + 1) 18446744073709551615)

pub counted_filed : {W S : Type 0} (l l' : Link W S) (w : Settlement) → w ≡ how.File → l'.filed ≡ min (l.filed + 1) 18446744073709551615 → l'.returned ≡ l.returned → Counted w l l'
counted_filed l l' w e f r = subst (λ x. Counted x l l') (sym e) (f, r)

pub counted_returned : {W S : Type 0} (l l' : Link W S) (w : Settlement) → w ≡ how.Return → l'.filed ≡ l.filed → l'.returned ≡ min (l.returned + 1) 18446744073709551615 → Counted w l l'
counted_returned l l' w e f r = subst (λ x. Counted x l l') (sym e) (f, r)

-- the first of the left list
record First (ds : List Departed) (d : Departed) : Type 0 where
  first_is : first ds ≡ Some d
  rest_is : drop 1 ds ≡ rest ds
  handed_is : (out : List ℕ) → handed ds out ≡ out ++ d.packet.number ∷ []

one_left : (ds : List Departed) (d : Departed) → 1 ≤ length ds → d ≡ get_or ds 0 d → First ds d
one_left [] d h e = absurd (omega arith)
one_left (x ∷ ds) d h e = record { first_is = ap Some (sym e); rest_is = refl; handed_is = λ out. ap (λ (y : Departed). out ++ y.packet.number ∷ []) (sym e) }

module _ {W S : Type 0} {line : WaitingLine W} {clock : SlotClock S} {c : Config} {calls : List Call} {l : Link W S}
    (h : Led line clock c calls l) where
  -- the same but for the desk
  desk_shown : (f : Desk → Desk) (l' : Link W S)
      → deque_items l'.left ≡ (f (after c calls).desk).left → vec_items l'.out ≡ (f (after c calls).desk).out → l'.filed ≡ (f (after c calls).desk).filed → l'.returned ≡ (f (after c calls).desk).returned
      → l'.waiting ≡ l.waiting → l'.slots ≡ l.slots → l'.number ≡ l.number → l'.largest ≡ l.largest → l'.sessions ≡ l.sessions → l'.clock ≡ l.clock → l'.count ≡ l.count → l'.line ≡ l.line → l'.table ≡ l.table
      → Shown line clock c (with_desk f (after c calls)) l'
  desk_shown f l' ef eo eg er ew es en em ev ek ei el et =
      let s = h.shown in
      record {
        pairs_are = ap line.pairs ew ∙ s.pairs_are;
        capacity_is = ap line.capacity ew ∙ s.capacity_is;
        state_is = ap clock.state es ∙ s.state_is;
        number_is = en ∙ s.number_is;
        largest_is = em ∙ s.largest_is;
        many = ap vec_len ev ∙ s.many;
        accepted_are = ap (λ v. map (λ x. x.accepted) (vec_items v)) ev ∙ s.accepted_are;
        sent_are = ap (λ v. map (λ x. x.sent) (vec_items v)) ev ∙ s.sent_are;
        clock_is = ek ∙ s.clock_is;
        count_is = ei ∙ s.count_is;
        line_is = el ∙ s.line_is;
        table_is = ap vec_items et ∙ s.table_is;
        left_is = ef;
        out_is = eo;
        filed_is = eg;
        returned_is = er;
      }

  pub none_collected : (o : Option Slip) → o ≡ None → deque_len l.left ≡ 0 → (l' : Link W S)
      → deque_items l'.left ≡ drop 1 (deque_items l.left) → vec_items l'.out ≡ vec_items l.out → l'.filed ≡ l.filed → l'.returned ≡ l.returned
      → l'.waiting ≡ l.waiting → l'.slots ≡ l.slots → l'.number ≡ l.number → l'.largest ≡ l.largest → l'.sessions ≡ l.sessions → l'.clock ≡ l.clock → l'.count ≡ l.count → l'.line ≡ l.line → l'.table ≡ l.table
      → Goes line clock c calls l Collect (collected_as o) l'
  none_collected o is e l' ef eo eg er ew es en em ev ek ei el et =
      let s = h.shown in
      let d = (after c calls).desk in
      let z : d.left ≡ [] = none_there d.left (ap length (sym s.left_is) ∙ sym l.left.ok.0 ∙ e) in
      record {
        led = record {
          drafted = h.drafted;
          shown = desk_shown hand_out l' (ef ∙ ap (drop 1) (s.left_is ∙ z) ∙ ap rest (sym z)) (eo ∙ s.out_is ∙ ap (λ x. handed x d.out) (sym z)) (eg ∙ s.filed_is) (er ∙ s.returned_is) ew es en em ev ek ei el et;
        };
        told = ap collected_as is ∙ ap (λ x. Collected (slip_of c.link (first x))) (sym z);
        kept = λ q. let y : ◌≡◌ {A = ℕ} 0 1 = cc in absurd (omega arith);
        law = lawful c h.drafted (Collect ∷ calls);
      }

  pub one_collected : (d : Departed) (says : Slip) → 1 ≤ deque_len l.left → d ≡ get_or (deque_items l.left) 0 d → says.says ≡ slip l.number d → (l' : Link W S)
      → deque_items l'.left ≡ drop 1 (deque_items l.left) → vec_items l'.out ≡ vec_items l.out ++ d.packet.number ∷ [] → l'.filed ≡ l.filed → l'.returned ≡ l.returned
      → l'.waiting ≡ l.waiting → l'.slots ≡ l.slots → l'.number ≡ l.number → l'.largest ≡ l.largest → l'.sessions ≡ l.sessions → l'.clock ≡ l.clock → l'.count ≡ l.count → l'.line ≡ l.line → l'.table ≡ l.table
      → Goes line clock c calls l Collect (collected_as (Some says)) l'
  one_collected d says le e is l' ef eo eg er ew es en em ev ek ei el et =
      let s = h.shown in
      let o = one_left (deque_items l.left) d (omega (arith, l.left.ok.0)) e in
      record {
        led = record {
          drafted = h.drafted;
          shown = desk_shown hand_out l' (ef ∙ o.rest_is ∙ ap rest s.left_is) (eo ∙ sym (o.handed_is (vec_items l.out)) ∙ (λ k. handed (s.left_is k) (s.out_is k))) (eg ∙ s.filed_is) (er ∙ s.returned_is) ew es en em ev ek ei el et;
        };
        told = ap (λ x. Collected (Some x)) (is ∙ ap (λ x. slip x d) s.number_is) ∙ ap (λ x. Collected (slip_of c.link x)) (sym o.first_is ∙ ap first s.left_is);
        kept = λ q. let y : ◌≡◌ {A = ℕ} 0 1 = cc in absurd (omega arith);
        law = lawful c h.drafted (Collect ∷ calls);
      }

  -- settled counts stay small
  few : ((after c calls).desk.filed + 1 < 18446744073709551615) × ((after c calls).desk.returned + 1 < 18446744073709551615)
  few =
      let t = after_calls TotalsAddUp totals_do_add_up c h.drafted calls in
      let b = reached_small c h.drafted calls in
      (omega (arith, t, b.count, b.clock), omega (arith, t, b.count, b.clock))

  module _ (link k : ℕ) (w : Settlement) where
    settled_law : Lawful c (settling w link k ∷ calls)
    settled_law = lawful c h.drafted (settling w link k ∷ calls)

    -- what a settlement does, and what is said of it
    does : (r : Result ℕ Refusal) → settlement c link k (after c calls) ≡ r → steps c (if_granted r (closing w k ∷ [])) (after c calls) ≡ after c (settling w link k ∷ calls)
    does r v = ap (λ es. steps c es (after c calls)) (sym (happens_settling w c link k (after c calls) ∙ ap (λ x. if_granted x (closing w k ∷ [])) v))

    says : (r : Result ℕ Refusal) → settlement c link k (after c calls) ≡ r → told (granted w) r ≡ answer c (after c calls) (settling w link k)
    says r v = sym (answer_settling w c link k (after c calls) ∙ ap (told (granted w)) v)

    pub settle_refused : (e : Refusal) (s : Slip) → settlement c link k (after c calls) ≡ Err e → Goes line clock c calls l (settling w link k) (settled (granted w) (Err (e, s))) l
    settle_refused e s v = record {
      led = record { drafted = h.drafted; shown = subst (λ m. Shown line clock c m l) (does (Err e) v) h.shown };
      told = says (Err e) v;
      kept = λ q. refl;
      law = settled_law;
    }

    module _ (v : settlement c link k (after c calls) ≡ Ok k) (i : ℕ) (at : At (λ n. n) k (vec_items l.out) i) (l' : Link W S) (eo : vec_items l'.out ≡ remove (vec_items l.out) i) (ef : l'.left ≡ l.left)
        (ew : l'.waiting ≡ l.waiting) (es : l'.slots ≡ l.slots) (en : l'.number ≡ l.number) (em : l'.largest ≡ l.largest) (ev : l'.sessions ≡ l.sessions) (ek : l'.clock ≡ l.clock) (ei : l'.count ≡ l.count)
        (el : l'.line ≡ l.line) (et : l'.table ≡ l.table) where
      out_is : vec_items l'.out ≡ without k (after c calls).desk.out
      out_is = eo ∙ at_without k (vec_items l.out) i at ∙ ap (without k) h.shown.out_is

      closed : (v : Settlement) → Counted v l l' → Shown line clock c (step c (closing v k) (after c calls)) l'
      closed how.File n = desk_shown (file k) l' (ap deque_items ef ∙ h.shown.left_is) out_is (omega (arith, few.0, h.shown.filed_is, n.0)) (n.1 ∙ h.shown.returned_is) ew es en em ev ek ei el et
      closed how.Return n = desk_shown (return k) l' (ap deque_items ef ∙ h.shown.left_is) out_is (n.0 ∙ h.shown.filed_is) (omega (arith, few.1, h.shown.returned_is, n.1)) ew es en em ev ek ei el et

      pub settle_goes : Counted w l l' → Goes line clock c calls l (settling w link k) (settled (granted w) (Ok k)) l'
      settle_goes n = record {
        led = record { drafted = h.drafted; shown = subst (λ m. Shown line clock c m l') (does (Ok k) v) (closed w n) };
        told = says (Ok k) v;
        kept = λ q. absurd (not_refused w k q);
        law = settled_law;
      }
