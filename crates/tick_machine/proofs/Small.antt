-- Totals that add up, numbers that are held once, and figures that stay small, from what every event keeps. Assumes nothing.
use Rattle.std.proofs.Common.{ℕ, ◌+◌, ◌*◌, ◌<◌, ◌≤◌, eqb, ltb, List, [], ◌∷◌, length, get_or, refl, subst, mul-le-mul, arith, Some, None}
use Rattle.std.proofs.lemmas.Bool.Decides.{nat_tests}
use Rattle.std.proofs.lemmas.Bool.{eq-eqb}
use Rattle.tick_machine.specs.Lists.{total, only, All}
use Rattle.tick_machine.specs.Sender.{Packet, Line}
use Rattle.tick_machine.specs.Machine.{Config, Machine}
use Rattle.tick_machine.specs.Life.{on_line}
use Rattle.tick_machine.specs.Story.{Story}
use Rattle.tick_machine.specs.Law.{On, idle, busy, Unsent}
use Rattle.tick_machine.specs.Fit.{Fit}
use Rattle.tick_machine.specs.Books.{line_bytes, waiting_bytes, over_line, holds, UnderWay, WellKept, TotalsAddUp, StaysSmall}
use Rattle.tick_machine.proofs.Lists.{head, tail, all_map, only_yes, total_each}
use Rattle.tick_machine.proofs.Work.{line, on_zip, unsent_map, unsent_zip}
use Rattle.tick_machine.proofs.Good.{Good, tidy}
use Rattle.tick_machine.proofs.Figures.{Told, sessions}
use Rattle.tick_machine.proofs.Bound.{own_within, next_near}
use Rattle.tick_machine.proofs.Places.{unsettled_over}
use Rattle.tick_machine.proofs.Placed.{fit_round, Placed}

pub totals_add_up : (c : Config) (m : Machine) → Placed c m → TotalsAddUp c m
totals_add_up c m h = omega (arith, h.adds_up, unsettled_over m)

-- a number that is held was given
held_given : (k n h : ℕ) → 1 ≤ h → h ≤ only (ltb k n) 1 → k < n
held_given k n h a b = grind (arith, nat_tests)

held_line : (l : Line) → On (λ p. 1 ≤ over_line (λ x. only (eqb x p.number) 1) l) l
held_line None = idle
held_line (Some b) = busy (omega (arith, only_yes (eqb b.packet.number b.packet.number) 1 (eq-eqb b.packet.number b.packet.number refl)))

held_waiting : (ws : List Packet) → All (λ p. 1 ≤ total (λ (q : Packet). only (eqb q.number p.number) 1) ws) ws
held_waiting ws =
    all_map (total_each (λ (p q : Packet). only (eqb q.number p.number) 1) ws)
    (λ p l. omega (arith, only_yes (eqb p.number p.number) 1 (eq-eqb p.number p.number refl)))

pub well_kept : (c : Config) (y : Story) → Fit c → Good c y → Placed c y.machine → WellKept c y.machine
well_kept c y f g h =
    let m = y.machine in
    let s = m.sender in
    let given : Unsent (λ p. p.number < m.count) s
    = record {
      on = on_zip (held_line s.line) (held_line s.line) (λ p a _. held_given p.number m.count (holds p.number m) (omega arith) (h.once p.number));
      waits = all_map (held_waiting s.waiting) (λ p a. held_given p.number m.count (holds p.number m) (omega arith) (h.once p.number));
    } in
    let known : Unsent (λ p. (p.number < m.count) × (p.session < length c.weights)) s
    = unsent_zip given (sessions (fit_round f) g) (λ p n l. (n, l)) in
    record {
      once = h.once;
      rising = g.order;
      under_way = g.under_way;
      proper = unsent_zip known g.sane (λ p n k. record {
        session = n.1;
        some = k.some;
        short = omega (arith, k.short, g.small);
        number = n.0;
      });
    }

-- so many packets have so many bytes at most
waiting_small : (ws : List Packet) → All (λ p. p.size ≤ 65535) ws → waiting_bytes ws ≤ length ws * 65535
waiting_small [] h = omega arith
waiting_small (p ∷ ws) h = omega (arith, head h, waiting_small ws (tail h))

line_small : (l : Line) → UnderWay l → On (λ p. p.size ≤ 65535) l → line_bytes l ≤ on_line l * 65535
line_small None b h = omega arith
line_small (Some on_it) b h = omega (arith, line h)

pub stays_small : (c : Config) (y : Story) → Fit c → Good c y → Told c y → Placed c y.machine → StaysSmall c y.machine
stays_small c y f g t h =
    let m = y.machine in
    let s = m.sender in
    let short : Unsent (λ p. p.size ≤ 65535) s = unsent_map g.sane (λ p k. omega (arith, k.short, g.small, f.largest)) in
    let at_most = unsettled_over m in
    let owed : length m.round.owed ≤ 67107840
    = omega (arith, g.work, waiting_small s.waiting short.waits, line_small s.line g.under_way short.on, h.few) in
    let next = next_near c.weights m.round (tidy g) f.weights g.many in
    let limit : m.round.cursor ≤ 72057594037927936
    = omega (arith, h.cursor, mul-le-mul h.clock f.round) in
    record {
      clock = h.clock;
      cursor = h.cursor;
      owed = owed;
      next = next;
      stamps = unsent_map g.sane (λ p k. subst (λ i. p.stamp < get_or m.round.next i 0) k.mine k.known);
      waiting = h.room;
      unsettled = omega (arith, h.few);
      count = omega (arith, h.adds_up, h.few, h.done);
      accepted = λ i. omega (arith, t.accepted i, t.served i, t.served_or_owed i, t.served_small i, own_within c.weights i m.round.owed);
      sent = t.sent_small;
      served = t.served_small;
      cursor_limit = limit;
      next_limit = λ i. omega (arith, next i, mul-le-mul (let l : length m.round.owed + 1 ≤ 67107841 = omega arith in l) f.round);
    }
