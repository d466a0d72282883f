-- Every packet in one place, every number held once, the clock and the cursor within their limits: kept by every event. Assumes nothing.
use Rattle.std.proofs.Common.{◌≡◌, ℕ, ◌+◌, ◌*◌, ◌<◌, ◌≤◌, true, eqb, ltb, length, refl, arith}
use Rattle.std.proofs.lemmas.Bool.Decides.{nat_tests}
use Rattle.tick_machine.specs.Lists.{only}
use Rattle.tick_machine.specs.Slots.{round_length}
use Rattle.tick_machine.specs.Sender.{Packet, sent_off}
use Rattle.tick_machine.specs.Desk.{among, hand_out, file, return}
use Rattle.tick_machine.specs.Machine.{Config, Machine, opened, packet, accept, tick, with_desk}
use Rattle.tick_machine.specs.Life.{last_tick}
use Rattle.tick_machine.specs.Story.{Story}
use Rattle.tick_machine.specs.Fit.{Fit}
use Rattle.tick_machine.specs.Books.{over, holds}
use Rattle.tick_machine.proofs.Lists.{length_insert}
use Rattle.tick_machine.proofs.Windows.{round_some}
use Rattle.tick_machine.proofs.Work.{send_waiting}
use Rattle.tick_machine.proofs.Good.{Good, tidy}
use Rattle.tick_machine.proofs.Bound.{tick_near}
use Rattle.tick_machine.proofs.Places.{unsettled_over, tick_over, accept_over, collect_over, without_total, without_length, joined_length, handed_length}
use Rattle.tick_machine.proofs.Histories.{Admitted}

pub fit_round : {c : Config} → Fit c → 1 ≤ round_length c.weights
fit_round {c} f = round_some c.weights 0 f.weights f.sessions_some

pub record Placed (c : Config) (m : Machine) : Type 0 where
  pub adds_up : over (λ x. 1) m + m.desk.filed + m.desk.returned ≡ m.count
  pub once : (k : ℕ) → holds k m ≤ only (ltb k m.count) 1
  pub few : over (λ x. 1) m ≤ 1024
  pub room : length m.sender.waiting ≤ c.capacity
  pub done : length m.desk.left + length m.desk.out + m.desk.filed + m.desk.returned ≤ m.clock
  pub clock : m.clock ≤ last_tick
  pub cursor : m.round.cursor ≤ m.clock * round_length c.weights

pub opened_placed : (c : Config) → Placed c (opened c)
opened_placed c = record {
  adds_up = refl;
  once = λ k. omega arith;
  few = omega arith;
  room = omega arith;
  done = omega arith;
  clock = omega arith;
  cursor = omega arith;
}

pub tick_placed : (c : Config) (y : Story) → Fit c → Good c y → y.machine.clock < last_tick → Placed c y.machine → Placed c (tick c y.machine)
tick_placed c y f g l h =
    let m = y.machine in
    let s = m.sender in
    let same = tick_over (λ x. 1) c m in
    let near = tick_near c.weights m.round (tidy g) f.weights (fit_round f) in
    let next_clock : (m.clock + 1) * round_length c.weights ≡ m.clock * round_length c.weights + round_length c.weights = omega arith in
    record {
      adds_up = omega (arith, h.adds_up);
      once = λ k. omega (arith, tick_over (λ x. only (eqb x k) 1) c m, h.once k);
      few = omega (arith, h.few);
      room = send_waiting (λ vs. length vs ≤ c.capacity) m.clock s.line s.waiting h.room (λ p vs k. omega arith);
      done = omega (arith, h.done, joined_length (sent_off m.clock s.line s.waiting) m.desk.left);
      clock = omega arith;
      cursor = omega (arith, h.cursor);
    }

pub accept_placed : (c : Config) (m : Machine) (i n tag : ℕ) → Admitted c i n m → Placed c m → Placed c (accept c i n tag m)
accept_placed c m i n tag a h =
    let more-over = accept_over (λ x. 1) c i n tag m in
    record {
      adds_up = omega (arith, h.adds_up);
      once = λ k.
          let held = accept_over (λ x. only (eqb x k) 1) c i n tag m in
          let before = h.once k in
          let step : only (ltb k m.count) 1 + only (eqb m.count k) 1 ≡ only (ltb k (m.count + 1)) 1 = grind (arith, nat_tests) in
          omega arith;
      few = omega (arith, a.few, unsettled_over m);
      room = omega (arith, a.room, length_insert (λ (p : Packet). p.stamp) (packet c i n tag m) m.sender.waiting);
      done = h.done;
      clock = h.clock;
      cursor = h.cursor;
    }

pub collect_placed : (c : Config) (m : Machine) → Placed c m → Placed c (with_desk hand_out m)
collect_placed c m h =
    record {
      adds_up = omega (arith, collect_over (λ x. 1) m, h.adds_up);
      once = λ k. omega (arith, collect_over (λ x. only (eqb x k) 1) m, h.once k);
      few = omega (arith, collect_over (λ x. 1) m, h.few);
      room = h.room;
      done = omega (arith, h.done, handed_length m.desk.left m.desk.out);
      clock = h.clock;
      cursor = h.cursor;
    }

pub file_placed : (c : Config) (m : Machine) (number : ℕ) → among number m.desk.out ≡ true → Placed c m → Placed c (with_desk (file number) m)
file_placed c m number o h =
    record {
      adds_up = omega (arith, without_total (λ x. 1) number m.desk.out o, h.adds_up);
      once = λ k. omega (arith, without_total (λ x. only (eqb x k) 1) number m.desk.out o, h.once k);
      few = omega (arith, without_total (λ x. 1) number m.desk.out o, h.few);
      room = h.room;
      done = omega (arith, h.done, without_length number m.desk.out o);
      clock = h.clock;
      cursor = h.cursor;
    }

pub return_placed : (c : Config) (m : Machine) (number : ℕ) → among number m.desk.out ≡ true → Placed c m → Placed c (with_desk (return number) m)
return_placed c m number o h =
    record {
      adds_up = omega (arith, without_total (λ x. 1) number m.desk.out o, h.adds_up);
      once = λ k. omega (arith, without_total (λ x. only (eqb x k) 1) number m.desk.out o, h.once k);
      few = omega (arith, without_total (λ x. 1) number m.desk.out o, h.few);
      room = h.room;
      done = omega (arith, h.done, without_length number m.desk.out o);
      clock = h.clock;
      cursor = h.cursor;
    }
