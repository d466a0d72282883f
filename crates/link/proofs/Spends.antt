-- What a link shows after a stretch. Assumes nothing.
use Rattle.std.proofs.Common.{◌≡◌, ℕ, ◌+◌, ◌≤◌, min, List, [], ◌∷◌, map, vec_items, vec_len, sym, refl, ap, ◌∙◌, subst, arith, Some, None, deque_items}
use Rattle.std.proofs.lemmas.Bool.{cond-true, le-leb}
use Rattle.waiting_line.specs.declared.line.WaitingLine.{Ghosts as WaitingLine}
use Rattle.slot_clock.specs.declared.clock.SlotClock.{Ghosts as SlotClock}
use Rattle.tick_machine.specs.declared.packet.Packet.{Packet}
use Rattle.tick_machine.specs.Sender.{Line, free}
use Rattle.tick_machine.specs.Lists.{All, more}
use Rattle.tick_machine.specs.Round.{Round, round_ticks}
use Rattle.tick_machine.specs.Sender.{load}
use Rattle.tick_machine.specs.Machine.{Config, Machine, ticks}
use Rattle.tick_machine.specs.Law.{On, idle, busy}
use Rattle.slot_clock.specs.State.{state_of, round_of}
use Rattle.slot_clock.specs.Calls.{run_after, may_run}
use Rattle.link.specs.declared.link.Link.{Link}
use Rattle.link.specs.Busy.{at_work}
use Rattle.link.specs.Stretch.{loaded, reach, spent, send_bytes, Carries}
use Rattle.link.specs.Orderly.{Orderly}
use Rattle.link.specs.Shown.{Shown}
use Rattle.link.proofs.Stretches.{ticks_sending, ticks_idle, load_ticks}

-- a line that is free after a load: nothing waits
load_free : (t : ℕ) (l : Line) (ws : List Packet) → (load t l ws).line ≡ free → (load t l ws).waiting ≡ []
load_free t None [] e = refl
load_free t None (p ∷ ws) e = let z : ◌≡◌ {A = ℕ} 0 1 = cc in absurd (omega arith)
load_free t (Some b) ws e = let z : ◌≡◌ {A = ℕ} 0 1 = cc in absurd (omega arith)

load_on : {P : Packet → Type 0} (t : ℕ) (l : Line) (ws : List Packet) → On P l → All P ws → On P (load t l ws).line
load_on t None [] o w = idle
load_on t None (p ∷ ws) o (more h r) = busy h
load_on t (Some b) ws (busy h) w = busy h

-- how far a stretch goes
pub reach_most : (l : Line) (span : ℕ) → reach l span ≤ span
reach_most None span = omega arith
reach_most (Some b) span = omega arith

pub reach_some : (l : Line) (span : ℕ) → 1 ≤ span → 1 ≤ at_work l → 1 ≤ reach l span
reach_some None span h b = h
reach_some (Some on_it) span h b = omega arith

-- it is so many ticks
stretched : (c : Config) (m : Machine) (l : Line) (span : ℕ) → (loaded m).sender.line ≡ l → 1 ≤ span → 1 ≤ at_work l
    → ticks c (reach l span) m ≡ send_bytes (reach l span) (spent c (reach l span) (loaded m))
stretched c m None span e h b = sym (load_ticks c m span h) ∙ ticks_idle c (loaded m) e (load_free m.clock m.sender.line m.sender.waiting e) span
stretched c m (Some on_it) span e h b = sym (load_ticks c m (min span on_it.rest) (omega arith)) ∙ ticks_sending c (loaded m) on_it.packet on_it.started on_it.rest e (min span on_it.rest) b (omega arith)

-- a slot clock that means this round server runs as it does
ran : (ws : List ℕ) (t k : ℕ) (r : Round) → r ≡ round_of (state_of ws t r) → t + k ≤ 17592186044416 → run_after (state_of ws t r) k ≡ state_of ws (t + k) (round_ticks k r)
ran ws t k r e h = cond-true (may_run (state_of ws t r) k) _ _ (le-leb (t + k) 17592186044416 h) ∙ ap (λ x. state_of ws (t + k) (round_ticks k x)) (sym e)

module _ {W S : Type 0} {line : WaitingLine W} {clock : SlotClock S} {c : Config} (m : Machine) {l : Link W S}
    (s : Shown line clock c (loaded m) l) (o : Orderly c m) (k : ℕ) (late : l.clock + k ≤ 17592186044416) where
  late' : m.clock + k ≤ 17592186044416
  late' = omega (arith, s.clock_is)

  -- the clocks have moved
  pub spend_shown : (l' : Link W S) → clock.state l'.slots ≡ run_after (clock.state l.slots) k → l'.clock ≡ l.clock + k
      → l'.waiting ≡ l.waiting → l'.number ≡ l.number → l'.largest ≡ l.largest → l'.sessions ≡ l.sessions → l'.count ≡ l.count → l'.line ≡ l.line
      → l'.table ≡ l.table → l'.left ≡ l.left → l'.out ≡ l.out → l'.filed ≡ l.filed → l'.returned ≡ l.returned
      → Shown line clock c (spent c k (loaded m)) l'
  spend_shown l' es ek ew en em ev ei el et ef eo eg er = record {
    pairs_are = ap line.pairs ew ∙ s.pairs_are;
    capacity_is = ap line.capacity ew ∙ s.capacity_is;
    state_is = es ∙ ap (λ x. run_after x k) s.state_is ∙ ran c.weights m.clock k m.round o.rounded late';
    number_is = en ∙ s.number_is;
    largest_is = em ∙ s.largest_is;
    many = ap vec_len ev ∙ s.many;
    accepted_are = ap (λ v. map (λ x. x.accepted) (vec_items v)) ev ∙ s.accepted_are;
    sent_are = ap (λ v. map (λ x. x.sent) (vec_items v)) ev ∙ s.sent_are;
    clock_is = ek ∙ ap (λ x. x + k) s.clock_is;
    count_is = ei ∙ s.count_is;
    line_is = el ∙ s.line_is;
    table_is = ap vec_items et ∙ s.table_is;
    left_is = ap deque_items ef ∙ s.left_is;
    out_is = ap vec_items eo ∙ s.out_is;
    filed_is = eg ∙ s.filed_is;
    returned_is = er ∙ s.returned_is;
  }

  pub carries : Carries c k (spent c k (loaded m))
  carries = record {
    known = load_on m.clock m.sender.line m.sender.waiting o.known.on o.known.waits;
    fits = λ i. omega (arith, o.slow i, late');
  }

  pub stretch_shown : (span d : ℕ) → k ≡ reach l.line span → 1 ≤ span → 1 ≤ at_work l.line → d ≡ k
      → (l' : Link W S) → Shown line clock c (send_bytes k (spent c k (loaded m))) l' → Shown line clock c (ticks c d m) l'
  stretch_shown span d e h b same l' x =
      let f : (j : ℕ) → j ≡ reach l.line span → ticks c j m ≡ send_bytes j (spent c j (loaded m))
      = λ j q. subst (λ y. ticks c y m ≡ send_bytes y (spent c y (loaded m))) (sym q) (stretched c m l.line span (sym s.line_is) h b) in
      subst (λ (b : Machine). Shown line clock c b l') (sym (ap (λ j. ticks c j m) same ∙ f k e)) x
