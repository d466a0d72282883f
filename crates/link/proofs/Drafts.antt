-- A draft keeps its limits, and shows the configuration that its calls lead to. Assumes nothing.
use Rattle.std.proofs.Common.{◌≡◌, ℕ, ◌+◌, ◌<◌, ◌≤◌, true, ltb, leb, List, [], ◌∷◌, ◌++◌, length, Ok, vec_items, vec_len, sym, refl, ap, ◌∙◌, arith}
use Rattle.std.proofs.lemmas.Bool.{lt-ltb, le-leb, and_from, and_parts, cond-true}
use Rattle.waiting_line.specs.declared.line.WaitingLine.{Ghosts as WaitingLine}
use Rattle.tick_machine.specs.Slots.{round_length}
use Rattle.tick_machine.specs.Machine.{Config}
use Rattle.tick_machine.specs.Life.{adding, with_session, added, drafted}
use Rattle.tick_machine.specs.Law.{Drafted}
use Rattle.tick_machine.proofs.Places.{total_push}
use Rattle.slot_clock.specs.Calls.{no_zero}
use Rattle.link.specs.declared.draft.Draft.{Draft}
use Rattle.link.specs.Drafting.{Drafts, Adds}

pub no_zero_push : (ws : List ℕ) (w : ℕ) → 0 < w → no_zero ws ≡ true → no_zero (ws ++ w ∷ []) ≡ true
no_zero_push [] w h e = and_from _ _ (lt-ltb 0 w h) refl
no_zero_push (x ∷ ws) w h e = let p = and_parts (ltb 0 x) (no_zero ws) e in and_from _ _ p.0 (no_zero_push ws w h p.1)

pub round_push : (ws : List ℕ) (w : ℕ) → round_length (ws ++ w ∷ []) ≡ round_length ws + w
round_push ws w = total_push (λ x. x) ws w

-- one adding more
pub drafted_push : (c : Config) (ws : List ℕ) (w : ℕ) → drafted c (ws ++ w ∷ []) ≡ added (drafted c ws) w
drafted_push c [] w = refl
drafted_push c (x ∷ ws) w = drafted_push (added c x) ws w

pub drafted_more : (c : Config) (w : ℕ) → Drafted c → Drafted (added c w)
drafted_more c w d = record {
  link = d.link;
  largest = d.largest;
  capacity = d.capacity;
  weight = d.weight;
  addings = d.addings ++ w ∷ [];
  first = d.first;
  making = d.making;
  is = drafted_push d.first d.addings w ∙ ap (λ (x : Config). added x w) d.is;
}

module _ {W : Type 0} {line : WaitingLine W} {c : Config} {d : Draft W} (h : Drafts line c d) (w : ℕ) where
  pub session_added : (n : ℕ) (d' : Draft W) → n ≡ vec_len d.weights → 0 < w → vec_len d.weights < 64 → d.round + w ≤ 4096 → d.round ≡ round_length (vec_items d.weights)
      → vec_items d'.weights ≡ vec_items d.weights ++ w ∷ [] → d'.waiting ≡ d.waiting → d'.number ≡ d.number → d'.largest ≡ d.largest
      → Adds line c d w (Ok n) d'
  session_added n d' is some few light sum ew ep en el =
      let many : vec_len d.weights ≡ length c.weights = d.weights.ok.0 ∙ ap length h.weights_are in
      let all : d.round ≡ round_length c.weights = sum ∙ ap round_length h.weights_are in
      let ok : adding c w ≡ Ok (length c.weights)
      = cond-true (ltb 0 w) _ _ (lt-ltb 0 w some) ∙ cond-true (ltb (length c.weights) 64) _ _ (lt-ltb _ _ (omega arith))
      ∙ cond-true (leb (round_length c.weights + w) 4096) _ _ (le-leb _ _ (omega arith)) in
      let next : added c w ≡ record { link = c.link; largest = c.largest; capacity = c.capacity; weights = c.weights ++ w ∷ [] } = ap (λ r. with_session r w c) ok in
      record {
        told = ap Ok (is ∙ many) ∙ sym ok;
        drafts = record {
          drafted = drafted_more c w h.drafted;
          pairs_none = ap line.pairs ep ∙ h.pairs_none;
          capacity_is = ap line.capacity ep ∙ h.capacity_is ∙ ap (λ (x : Config). x.capacity) (sym next);
          number_is = en ∙ h.number_is ∙ ap (λ (x : Config). x.link) (sym next);
          largest_is = el ∙ h.largest_is ∙ ap (λ (x : Config). x.largest) (sym next);
          weights_are = ew ∙ ap (λ xs. xs ++ w ∷ []) h.weights_are ∙ ap (λ (x : Config). x.weights) (sym next);
        };
      }
