-- Figures and totals are read as promised. Assumes nothing.
use Rattle.std.proofs.Common.{◌≡◌, ℕ, zero, suc, ◌+◌, ◌-◌, ◌^◌, ◌<◌, ◌≤◌, min, eqb, ltb, List, [], ◌∷◌, map, length, get_or, take, ℤ, pos, ◌+ℤ◌, ◌-ℤ◌, ◌<ℤ◌, Ok, Err, vec_items, vec_len, sym, refl, ap, ◌∙◌, arith, deque_len}
use Rattle.std.proofs.lemmas.Bool.Decides.{nat_tests}
use Rattle.std.proofs.lemmas.Int.{ints}
use Rattle.std.proofs.lemmas.List.{take_more, get_or-map}
use Rattle.std.proofs.lemmas.Bool.{lt-ltb, le-ltb, cond-true, cond-false}
use Rattle.waiting_line.specs.declared.line.WaitingLine.{Ghosts as WaitingLine}
use Rattle.slot_clock.specs.declared.clock.SlotClock.{Ghosts as SlotClock}
use Rattle.tick_machine.specs.declared.packet.Packet.{Packet}
use Rattle.tick_machine.specs.declared.refusal.Refusal.TheVariants.{UnknownSession}
use Rattle.tick_machine.specs.declared.call.Call.{Call}
use Rattle.tick_machine.specs.declared.call.Call.TheVariants.{AskFigures, AskTotals}
use Rattle.tick_machine.specs.declared.call.Totals.{Totals}
use Rattle.tick_machine.specs.declared.call.Answer.TheVariants.{FiguresAre, TotalsAre}
use Rattle.tick_machine.specs.Lists.{total, only}
use Rattle.tick_machine.specs.Round.{owed_to}
use Rattle.tick_machine.specs.Owed.{from}
use Rattle.tick_machine.specs.Machine.{Config, Machine}
use Rattle.tick_machine.specs.Life.{figures_of, on_line, told, after, events}
use Rattle.tick_machine.specs.Story.{story}
use Rattle.tick_machine.specs.Law.{served_of, sent_of}
use Rattle.tick_machine.proofs.Places.{total_push}
use Rattle.tick_machine.proofs.Histories.{story_tells}
use Rattle.tick_machine.proofs.Stands.{law, figures_are_told}
use Rattle.slot_clock.specs.declared.refusal.ClockRefusal.{ClockRefusal}
use Rattle.slot_clock.specs.Calls.{owed_answer}
use Rattle.link.specs.declared.link.Link.{Link}
use Rattle.link.specs.declared.session.Session.{Session}
use Rattle.link.specs.Promise.{longest, Led, Goes}
use Rattle.link.proofs.Tables.{total_by_number}
use Rattle.link.proofs.Admits.{many_waiting, many_left, many_out, many_sending}
use Rattle.link.proofs.Reached.{lawful, reached_small, reached_figures}

-- a sum over one entry more
total_more : {X : Type 0} (f : X → ℕ) (xs : List X) (i : ℕ) (d : X) → i < length xs → total f (take (i + 1) xs) ≡ total f (take i xs) + f (get_or xs i d)
total_more f xs i d h = ap (total f) (take_more xs i d h) ∙ total_push f (take i xs) (get_or xs i d)

module _ (session : ℕ) (xs : List Packet) (i : ℕ) (d : Packet) (within : i < length xs) (sum sum' : ℕ)
    (inv : sum ≡ min (total (λ p. only (eqb p.session session) p.size) (take i xs)) 18446744073709551615) where
  abbrev Counted : Type 0
  Counted = sum' ≡ min (total (λ p. only (eqb p.session session) p.size) (take (i + 1) xs)) 18446744073709551615

  pub bytes_counted : (get_or xs i d).session ≡ session → sum' ≡ min (sum + (get_or xs i d).size) 18446744073709551615 → Counted
  bytes_counted e s =
      let t = total_more (λ (p : Packet). only (eqb p.session session) p.size) xs i d within in
      grind (arith, nat_tests)

  pub bytes_passed : ((get_or xs i d).session ≡ session → ⊥) → sum' ≡ sum → Counted
  bytes_passed e s =
      let t = total_more (λ (p : Packet). only (eqb p.session session) p.size) xs i d within in
      grind (arith, nat_tests)

-- what a session is owed
getD_from : (f : ℕ → ℕ) (a n i : ℕ) → i < n → get_or (map f (from a n)) i 0 ≡ f (a + i)
getD_from f a zero i h = absurd (omega arith)
getD_from f a (suc n) zero h = ap f (omega arith)
getD_from f a (suc n) (suc i) h = getD_from f (suc a) n i (omega arith) ∙ ap f (omega arith)

module _ {W S : Type 0} {line : WaitingLine W} {clock : SlotClock S} {c : Config} {calls : List Call} {l : Link W S}
    (h : Led line clock c calls l) where
  -- a reading leaves the machine as it is
  pub totals_goes : (t : Totals) → t.waiting ≡ length (line.pairs l.waiting) → t.sending ≡ on_line l.line → t.left ≡ deque_len l.left → t.out ≡ vec_len l.out → t.filed ≡ l.filed → t.returned ≡ l.returned
      → Goes line clock c calls l AskTotals (TotalsAre t) l
  totals_goes t ew es el eo ef er =
      let s = h.shown in
      record {
        led = record { drafted = h.drafted; shown = s };
        told = ap TotalsAre (λ k. record {
          waiting = (ew ∙ many_waiting s) k;
          sending = (es ∙ many_sending s) k;
          left = (el ∙ many_left s) k;
          out = (eo ∙ many_out s) k;
          filed = (ef ∙ s.filed_is) k;
          returned = (er ∙ s.returned_is) k;
        });
        kept = λ q. refl;
        law = lawful c h.drafted (AskTotals ∷ calls);
      }

  module _ (i : ℕ) where
    pub figures_refused : vec_len l.sessions ≤ i → Goes line clock c calls l (AskFigures i) (told FiguresAre (Err UnknownSession)) l
    figures_refused le = record {
      led = record { drafted = h.drafted; shown = h.shown };
      told = ap (told FiguresAre) (sym (cond-false (ltb i (length c.weights)) (Ok (figures_of i (after c calls))) (Err UnknownSession) (le-ltb _ _ (omega (arith, h.shown.many)))));
      kept = λ q. refl;
      law = lawful c h.drafted (AskFigures i ∷ calls);
    }

    module _ (known : i < vec_len l.sessions) where
      known' : i < length c.weights
      known' = omega (arith, h.shown.many)

      owes : owed_answer (clock.state l.slots) i ≡ Ok (owed_to c.weights i (after c calls).round)
      owes =
          let ws = c.weights in
          let m = after c calls in
          ap (λ x. owed_answer x i) h.shown.state_is ∙ cond-true (ltb i (length ws)) _ _ (lt-ltb _ _ known')
          ∙ ap Ok (getD_from (λ j. owed_to ws j m.round) 0 (length ws) i known' ∙ ap (λ j. owed_to ws j m.round) (omega arith))

      pub owed_known : (e : ClockRefusal) → Err e ≡ owed_answer (clock.state l.slots) i → ⊥
      owed_known e x = let y = x ∙ owes in let z : ◌≡◌ {A = ℕ} 0 1 = cc in omega arith

      module _ (r : Session) (is : r ≡ get_or (vec_items l.sessions) i r) (owed : ℕ) (owed-is : Ok owed ≡ owed_answer (clock.state l.slots) i) where
        inside : i < length (vec_items l.sessions)
        inside = omega (arith, l.sessions.ok.0)

        accepted_is : r.accepted ≡ get_or (after c calls).bytes.accepted i 0
        accepted_is = ap (λ (x : Session). x.accepted) is ∙ sym (get_or-map (λ (x : Session). x.accepted) (vec_items l.sessions) i r 0 inside) ∙ ap (λ xs. get_or xs i 0) h.shown.accepted_are

        sent_is : r.sent ≡ get_or (after c calls).bytes.sent i 0
        sent_is = ap (λ (x : Session). x.sent) is ∙ sym (get_or-map (λ (x : Session). x.sent) (vec_items l.sessions) i r 0 inside) ∙ ap (λ xs. get_or xs i 0) h.shown.sent_are

        served_is : r.accepted - owed ≡ get_or (after c calls).bytes.served i 0
        served_is =
            let y = owed-is ∙ owes in
            let o : owed ≡ owed_to c.weights i (after c calls).round = cc in
            omega (arith, accepted_is, (reached_figures c h.drafted calls).served_or_owed i)

        pub sent_small : r.sent < 2 ^ 63
        sent_small = omega (arith, sent_is, (reached_small c h.drafted calls).sent i, (reached_small c h.drafted calls).clock)

        pub served_small : r.accepted - owed < 2 ^ 63
        served_small = omega (arith, served_is, (reached_small c h.drafted calls).served i, (reached_small c h.drafted calls).clock)

        waiting_is : (items : List Packet) → items ≡ vec_items l.table → min (total (λ p. only (eqb p.session i) p.size) items) 18446744073709551615 ≡ total (λ p. only (eqb p.session i) p.size) (after c calls).sender.waiting
        waiting_is items e =
            let f : Packet → ℕ = λ p. only (eqb p.session i) p.size in
            let m = after c calls in
            let same : total f items ≡ total f m.sender.waiting = ap (total f) (e ∙ h.shown.table_is) ∙ total_by_number f m.sender.waiting in
            let small = reached_small c h.drafted calls in
            omega (arith, same, (reached_figures c h.drafted calls).sent_or_unsent i, small.accepted i, small.clock)

        module _ (served : ℕ) (lead : ℤ) (waiting : ℕ) (ev : served ≡ r.accepted - owed) (ed : lead ≡ pos r.sent -ℤ pos served) where
          lead_is : lead ≡ pos (get_or (after c calls).bytes.sent i 0) -ℤ pos (get_or (after c calls).bytes.served i 0)
          lead_is = ed ∙ (λ k. pos (sent_is k) -ℤ pos ((ev ∙ served_is) k))

          pub figures_goes : (items : List Packet) → items ≡ vec_items l.table → waiting ≡ min (total (λ p. only (eqb p.session i) p.size) items) 18446744073709551615
              → Goes line clock c calls l (AskFigures i) (told FiguresAre (Ok (record { accepted = r.accepted; sent = r.sent; served = served; lead = lead; waiting = waiting }))) l
          figures_goes items e ew = record {
            led = record { drafted = h.drafted; shown = h.shown };
            told = ap (told FiguresAre) (ap Ok (λ k. record { accepted = accepted_is k; sent = sent_is k; served = (ev ∙ served_is) k; lead = lead_is k; waiting = (ew ∙ waiting_is items e) k })
                ∙ sym (cond-true (ltb i (length c.weights)) (Ok (figures_of i (after c calls))) (Err UnknownSession) (lt-ltb _ _ known')));
            kept = λ q. refl;
            law = lawful c h.drafted (AskFigures i ∷ calls);
          }

          pub lead_bounded : 0 < longest c calls → pos 0 <ℤ (lead +ℤ pos (longest c calls))
          lead_bounded some =
              let y = story c (events c calls) in
              let level = (law c h.drafted calls [] (events c calls) refl).level some i in
              let figs = figures_are_told c h.drafted calls [] (events c calls) refl in
              let a : get_or (after c calls).bytes.sent i 0 ≡ sent_of i y = ap (λ (m : Machine). get_or m.bytes.sent i 0) (sym (story_tells c calls)) ∙ figs.sent i in
              let b : get_or (after c calls).bytes.served i 0 ≡ served_of c.weights i y = ap (λ (m : Machine). get_or m.bytes.served i 0) (sym (story_tells c calls)) ∙ figs.served i in
              below (get_or (after c calls).bytes.sent i 0) (get_or (after c calls).bytes.served i 0) (longest c calls) lead lead_is (omega arith)
            where
              below : (a b k : ℕ) (x : ℤ) → x ≡ pos a -ℤ pos b → b < a + k → pos 0 <ℤ (x +ℤ pos k)
              below a b k x e l = omega (arith, ints)
