-- What a link shows when its line takes a packet. Assumes nothing.
use Rattle.std.proofs.Common.{◌≡◌, ℕ, ◌≤◌, List, [], ◌∷◌, map, get_or, Some, vec_items, vec_len, sym, refl, ap, ◌∙◌, subst, arith, None, deque_items}
use Rattle.std.specs.List.{remove}
use Rattle.waiting_line.specs.declared.line.WaitingLine.{Ghosts as WaitingLine}
use Rattle.slot_clock.specs.declared.clock.SlotClock.{Ghosts as SlotClock}
use Rattle.tick_machine.specs.declared.packet.Packet.{Packet}
use Rattle.tick_machine.specs.Sender.{Line, free, sending}
use Rattle.tick_machine.specs.Lists.{All}
use Rattle.tick_machine.specs.Sender.{Sender, load}
use Rattle.tick_machine.specs.Machine.{Config, Machine}
use Rattle.tick_machine.proofs.Lists.{head}
use Rattle.waiting_line.specs.declared.pair.Pair.{Pair}
use Rattle.waiting_line.specs.Lines.{first, rest}
use Rattle.link.specs.declared.link.Link.{Link}
use Rattle.link.specs.Places.{At, Nowhere}
use Rattle.link.specs.Stretch.{loaded}
use Rattle.link.specs.Orderly.{Orderly, Apart}
use Rattle.link.specs.Shown.{pair, by_number, Shown}
use Rattle.link.proofs.Tables.{number, by_number_found, by_number_there}

-- a free line with packets waiting: the first of them, and what a load makes of it
record Next (clock : ℕ) (l : Line) (ws : List Packet) (t : Pair) : Type 0 where
  it : Packet
  others : List Packet
  waits : ws ≡ it ∷ others
  named : t ≡ pair it
  loads : load clock l ws ≡ record { waiting = others; line = sending it clock it.size }

next : (clock : ℕ) (l : Line) (ws : List Packet) (t : Pair) → l ≡ free → Some t ≡ first (map pair ws) → Next clock l ws t
next clock None [] t e f = let z : ◌≡◌ {A = ℕ} 0 1 = cc in absurd (omega arith)
next clock None (p ∷ ws) t e f = record { it = p; others = ws; waits = refl; named = cc; loads = refl }
next clock (Some b) ws t e f = let z : ◌≡◌ {A = ℕ} 0 1 = cc in absurd (omega arith)

module _ {W S : Type 0} {line : WaitingLine W} {clock : SlotClock S} {c : Config} {m : Machine} {l : Link W S}
    (s : Shown line clock c m l) (o : Orderly c m) (t : Pair) (idle : l.line ≡ free) (least : Some t ≡ first (line.pairs l.waiting)) where
  n : Next m.clock m.sender.line m.sender.waiting t
  n = next m.clock m.sender.line m.sender.waiting t (sym s.line_is ∙ idle) (least ∙ ap first s.pairs_are)

  lone : All (λ q. q.number ≡ n.it.number → ⊥) n.others
  lone = (subst Apart n.waits o.apart).0

  table : vec_items l.table ≡ by_number (n.it ∷ n.others)
  table = s.table_is ∙ ap by_number n.waits

  named : t.packet ≡ n.it.number
  named = ap (λ (x : Pair). x.packet) n.named

  -- it stands in the table
  pub load_there : (items : List Packet) → items ≡ vec_items l.table → Nowhere number t.packet items → ⊥
  load_there items e h = by_number_there n.it n.others (subst (λ k. Nowhere number k (by_number (n.it ∷ n.others))) named (subst (Nowhere number t.packet) (e ∙ table) h))

  module _ (items : List Packet) (e : items ≡ vec_items l.table) (i : ℕ) (at : At number t.packet items i) (p : Packet) (is : p ≡ get_or (vec_items l.table) i p) where
    stands : (get_or (by_number (n.it ∷ n.others)) i p ≡ n.it) × (remove (by_number (n.it ∷ n.others)) i ≡ by_number n.others)
    stands = by_number_found n.it n.others i p lone (subst (λ k. At number k (by_number (n.it ∷ n.others)) i) named (subst (λ xs. At number t.packet xs i) (e ∙ table) at))

    same : p ≡ n.it
    same = is ∙ ap (λ xs. get_or xs i p) table ∙ stands.0

    pub load_some : 1 ≤ p.size
    load_some = subst (λ (q : Packet). 1 ≤ q.size) (sym same) (head (subst (All (λ q. 1 ≤ q.size)) n.waits o.sized))

    pub load_shown : (l' : Link W S)
        → line.pairs l'.waiting ≡ rest (line.pairs l.waiting) → line.capacity l'.waiting ≡ line.capacity l.waiting → vec_items l'.table ≡ remove (vec_items l.table) i → l'.line ≡ sending p l.clock p.size
        → l'.slots ≡ l.slots → l'.number ≡ l.number → l'.largest ≡ l.largest → l'.sessions ≡ l.sessions → l'.clock ≡ l.clock → l'.count ≡ l.count
        → l'.left ≡ l.left → l'.out ≡ l.out → l'.filed ≡ l.filed → l'.returned ≡ l.returned
        → Shown line clock c (loaded m) l'
    load_shown l' ep ec et el es en em ev ek ei ef eo eg er = record {
      pairs_are = ep ∙ ap rest s.pairs_are ∙ ap (λ ws. rest (map pair ws)) n.waits ∙ ap (λ (x : Sender). map pair x.waiting) (sym n.loads);
      capacity_is = ec ∙ s.capacity_is;
      state_is = ap clock.state es ∙ s.state_is;
      number_is = en ∙ s.number_is;
      largest_is = em ∙ s.largest_is;
      many = ap vec_len ev ∙ s.many;
      accepted_are = ap (λ v. map (λ x. x.accepted) (vec_items v)) ev ∙ s.accepted_are;
      sent_are = ap (λ v. map (λ x. x.sent) (vec_items v)) ev ∙ s.sent_are;
      clock_is = ek ∙ s.clock_is;
      count_is = ei ∙ s.count_is;
      line_is = el ∙ (λ x. sending (same x) (s.clock_is x) (same x).size) ∙ ap (λ (x : Sender). x.line) (sym n.loads);
      table_is = et ∙ ap (λ xs. remove xs i) table ∙ stands.1 ∙ ap (λ (x : Sender). by_number x.waiting) (sym n.loads);
      left_is = ap deque_items ef ∙ s.left_is;
      out_is = ap vec_items eo ∙ s.out_is;
      filed_is = eg ∙ s.filed_is;
      returned_is = er ∙ s.returned_is;
    }
