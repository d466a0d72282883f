-- What a link shows when bytes of the packet on its line are sent. Assumes nothing.
use Rattle.std.proofs.Common.{◌≡◌, ℕ, ◌+◌, ◌-◌, ◌^◌, ◌<◌, ◌≤◌, List, [], ◌∷◌, ◌++◌, map, get_or, vec_items, vec_len, sym, ap, ◌∙◌, subst, arith, Some, None, deque_items}
use Rattle.waiting_line.specs.declared.line.WaitingLine.{Ghosts as WaitingLine}
use Rattle.slot_clock.specs.declared.clock.SlotClock.{Ghosts as SlotClock}
use Rattle.tick_machine.specs.declared.packet.Packet.{Packet}
use Rattle.tick_machine.specs.declared.packet.Departed.{Departed}
use Rattle.tick_machine.specs.Sender.{Line, free, sending}
use Rattle.tick_machine.specs.Sender.{onward, leaving}
use Rattle.tick_machine.specs.Desk.{joined}
use Rattle.tick_machine.specs.Machine.{Config, Machine, raise}
use Rattle.tick_machine.specs.Law.{On, busy}
use Rattle.link.specs.declared.link.Link.{Link}
use Rattle.link.specs.Stretch.{line_after, leaver_after, sent_after, send_bytes, Carries}
use Rattle.link.specs.Shown.{Shown}
use Rattle.link.proofs.Stretches.{onward_some, leaving_some}

-- what holds of the packet on the line
pub on_packet : {P : Packet → Type 0} {p : Packet} {st n : ℕ} (l : Line) → On P l → l ≡ sending p st n → P p
on_packet None o e = let z : ◌≡◌ {A = ℕ} 0 1 = cc in absurd (omega arith)
on_packet {P} {p} (Some on_it) (busy h) e = let f : on_it.packet ≡ p = cc in subst P f h

module _ {W S : Type 0} {line : WaitingLine W} {clock : SlotClock S} {c : Config} {m : Machine} {l : Link W S}
    (s : Shown line clock c m l) (k : ℕ) (carry : Carries c k m) (p : Packet) (st n : ℕ) (on : l.line ≡ sending p st n) where
  on' : m.sender.line ≡ sending p st n
  on' = sym s.line_is ∙ on

  pub send_known : p.session < vec_len l.sessions
  send_known = let h = on_packet m.sender.line carry.known on' in omega (arith, s.many)

  pub send_fits : get_or (map (λ x. x.sent) (vec_items l.sessions)) p.session 0 + k < 2 ^ 64
  send_fits = subst (λ xs. get_or xs p.session 0 + k < 2 ^ 64) (sym s.sent_are) (carry.fits p.session)

  pub send_shown : (l' : Link W S)
      → map (λ x. x.sent) (vec_items l'.sessions) ≡ raise p.session k (map (λ x. x.sent) (vec_items l.sessions))
      → map (λ x. x.accepted) (vec_items l'.sessions) ≡ map (λ x. x.accepted) (vec_items l.sessions) → vec_len l'.sessions ≡ vec_len l.sessions
      → l'.line ≡ line_after k (sending p st n) → deque_items l'.left ≡ joined (leaver_after l.clock k (sending p st n)) (deque_items l.left)
      → l'.waiting ≡ l.waiting → l'.slots ≡ l.slots → l'.number ≡ l.number → l'.largest ≡ l.largest → l'.clock ≡ l.clock → l'.count ≡ l.count
      → l'.table ≡ l.table → l'.out ≡ l.out → l'.filed ≡ l.filed → l'.returned ≡ l.returned
      → Shown line clock c (send_bytes k m) l'
  send_shown l' eb ea ev el ef ew es en em ek ei et eo eg er = record {
    pairs_are = ap line.pairs ew ∙ s.pairs_are;
    capacity_is = ap line.capacity ew ∙ s.capacity_is;
    state_is = ap clock.state es ∙ s.state_is;
    number_is = en ∙ s.number_is;
    largest_is = em ∙ s.largest_is;
    many = ev ∙ s.many;
    accepted_are = ea ∙ s.accepted_are;
    sent_are = eb ∙ ap (raise p.session k) s.sent_are ∙ ap (λ x. sent_after k x m.bytes.sent) (sym on');
    clock_is = ek ∙ s.clock_is;
    count_is = ei ∙ s.count_is;
    line_is = el ∙ ap (line_after k) (sym on');
    table_is = ap vec_items et ∙ s.table_is;
    left_is = ef ∙ (λ x. joined (leaver_after (s.clock_is x) k (sym on' x)) (s.left_is x));
    out_is = ap vec_items eo ∙ s.out_is;
    filed_is = eg ∙ s.filed_is;
    returned_is = er ∙ s.returned_is;
  }

  -- some bytes are left
  pub part_line : k < n → sending p st (n - k) ≡ line_after k (sending p st n)
  part_line h = sym (onward_some p st (n - k) (omega arith))

  pub part_left : (ds : List Departed) → k < n → ds ≡ joined (leaver_after l.clock k (sending p st n)) ds
  part_left ds h = ap (λ o. joined o ds) (sym (leaving_some l.clock p st (n - k) (omega arith)))

  -- none is left
  none_left : n ≤ k → n - k ≡ 0
  none_left h = omega arith

  pub whole_line : n ≤ k → free ≡ line_after k (sending p st n)
  whole_line h = ap (onward p st) (sym (none_left h))

  pub whole_left : (ds : List Departed) → n ≤ k → ds ++ record { packet = p; started = st; left = l.clock } ∷ [] ≡ joined (leaver_after l.clock k (sending p st n)) ds
  whole_left ds h = ap (λ y. joined (leaving l.clock p st y) ds) (sym (none_left h))
