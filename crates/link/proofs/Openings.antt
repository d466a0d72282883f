-- An opening goes as promised. Assumes nothing.
use Rattle.std.proofs.Common.{◌≡◌, ℕ, zero, suc, ◌≤◌, true, ◌&&◌, ltb, leb, List, [], ◌∷◌, map, length, replicate, Ok, vec_items, vec_len, sym, refl, ap, ◌∙◌, arith, deque_items}
use lib.ListN.{length-replicate}
use Rattle.std.proofs.lemmas.Bool.{lt-ltb, le-leb, and_from, cond-true}
use Rattle.waiting_line.specs.declared.line.WaitingLine.{Ghosts as WaitingLine}
use Rattle.slot_clock.specs.declared.clock.SlotClock.{Ghosts as SlotClock}
use Rattle.tick_machine.specs.Slots.{round_length}
use Rattle.tick_machine.specs.Round.{fresh_round}
use Rattle.tick_machine.specs.Machine.{Config}
use Rattle.tick_machine.proofs.Stands.{law}
use Rattle.slot_clock.specs.State.{state_of}
use Rattle.slot_clock.specs.Calls.{no_zero, made_answer}
use Rattle.link.specs.declared.session.Session.{Session}
use Rattle.link.specs.declared.draft.Draft.{Draft}
use Rattle.link.specs.declared.link.Link.{Link}
use Rattle.link.specs.Opened.{Opened}
use Rattle.link.specs.Drafting.{Drafts, Opens}
use Rattle.link.proofs.Tables.{none_there}

map_replicate : (f : Session → ℕ) (n : ℕ) (x : Session) → map f (replicate n x) ≡ replicate n (f x)
map_replicate f zero x = refl
map_replicate f (suc n) x = ap (λ ys. f x ∷ ys) (map_replicate f n x)

-- a slot clock is made of the weights of a draft
makes : (ws : List ℕ) → 1 ≤ length ws → length ws ≤ 64 → no_zero ws ≡ true → round_length ws ≤ 4096 → made_answer ws ≡ Ok (state_of ws 0 (fresh_round ws))
makes ws some few weighty light =
    cond-true (ltb 0 (length ws) && leb (length ws) 64) _ _ (and_from _ _ (lt-ltb _ _ some) (le-leb _ _ few))
    ∙ cond-true (no_zero ws && leb (round_length ws) 4096) _ _ (and_from _ _ weighty (le-leb _ _ light))

module _ {W S : Type 0} {line : WaitingLine W} {clock : SlotClock S} {c : Config} (d : Draft W) (h : Drafts line c d) where
  pub opens : (items : List ℕ) → items ≡ vec_items d.weights → (slots : S) → Ok (clock.state slots) ≡ made_answer items
      → (l : Link W S) → Opened d slots l → Opens line clock c l d.round
  opens items e slots made l o =
      let ws = c.weights in
      let many : vec_len d.weights ≡ length ws = d.weights.ok.0 ∙ ap length h.weights_are in
      let zeros : vec_items l.sessions ≡ replicate (length ws) (record { accepted = 0; sent = 0 }) = o.sessions_are ∙ ap (λ n. replicate n (record { accepted = 0; sent = 0 })) many in
      let is : Ok (clock.state slots) ≡ Ok (state_of ws 0 (fresh_round ws))
      = made ∙ ap made_answer (e ∙ h.weights_are)
      ∙ makes ws (omega (arith, many, d.some)) (omega (arith, many, d.few)) (ap no_zero (sym h.weights_are) ∙ d.weighty) (omega (arith, d.sum ∙ ap round_length h.weights_are, d.light)) in
      let st : clock.state slots ≡ state_of ws 0 (fresh_round ws) = cc in
      record {
        led = record {
          drafted = h.drafted;
          shown = record {
            pairs_are = ap line.pairs o.waiting_is ∙ h.pairs_none;
            capacity_is = ap line.capacity o.waiting_is ∙ h.capacity_is;
            state_is = ap clock.state o.slots_are ∙ st;
            number_is = o.number_is ∙ h.number_is;
            largest_is = o.largest_is ∙ h.largest_is;
            many = l.sessions.ok.0 ∙ ap length zeros ∙ length-replicate (length ws) (record { accepted = 0; sent = 0 });
            accepted_are = ap (map (λ x. x.accepted)) zeros ∙ map_replicate (λ x. x.accepted) (length ws) _;
            sent_are = ap (map (λ x. x.sent)) zeros ∙ map_replicate (λ x. x.sent) (length ws) _;
            clock_is = o.clock_is;
            count_is = o.count_is;
            line_is = o.line_is;
            table_is = ap vec_items o.table_is ∙ none_there _ (sym d.table.ok.0 ∙ d.untabled);
            left_is = ap deque_items o.left_is ∙ none_there _ (sym d.left.ok.0 ∙ d.unlisted);
            out_is = ap vec_items o.out_is ∙ none_there _ (sym d.out.ok.0 ∙ d.unnoted);
            filed_is = o.filed_is;
            returned_is = o.returned_is;
          };
        };
        told = d.sum ∙ ap round_length h.weights_are;
        law = law c h.drafted [];
      }
