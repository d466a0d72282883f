-- A stretch of ticks at once is those ticks one by one. Assumes nothing.
use Rattle.std.proofs.Common.{◌≡◌, ℕ, zero, suc, ◌+◌, ◌-◌, ◌<◌, ◌≤◌, List, [], ◌∷◌, set, None, sym, refl, ap, ◌∙◌, add-suc, arith, Some}
use Rattle.std.proofs.lemmas.List.{set-get_or}
use Rattle.tick_machine.specs.declared.packet.Packet.{Packet}
use Rattle.tick_machine.specs.Sender.{Line, free, sending}
use Rattle.tick_machine.specs.Round.{round_ticks}
use Rattle.tick_machine.specs.Sender.{onward, leaving, send}
use Rattle.tick_machine.specs.Desk.{depart}
use Rattle.tick_machine.specs.Machine.{Config, Machine, raise, tick, ticks}
use Rattle.link.specs.Stretch.{loaded, spent, line_after, leaver_after, sent_after, send_bytes}

pub onward_some : (p : Packet) (s y : ℕ) → 1 ≤ y → onward p s y ≡ sending p s y
onward_some p s zero h = absurd (omega arith)
onward_some p s (suc y) h = refl

pub leaving_some : (t : ℕ) (p : Packet) (s y : ℕ) → 1 ≤ y → leaving t p s y ≡ None
leaving_some t p s zero h = absurd (omega arith)
leaving_some t p s (suc y) h = refl

raise_none : (i : ℕ) (xs : List ℕ) → raise i 0 xs ≡ xs
raise_none i xs = ap (λ n. set xs i n) (omega arith) ∙ set-get_or xs i 0

raise_more : (i k : ℕ) (xs : List ℕ) → raise i 1 (raise i k xs) ≡ raise i (suc k) xs
raise_more i k [] = refl
raise_more zero k (x ∷ xs) = ap (λ n. n ∷ xs) (omega arith)
raise_more (suc i) k (x ∷ xs) = ap (λ ys. x ∷ ys) (raise_more i k xs)

-- a tick is the same whether the line was loaded before it or not
at : Machine → Line → List Packet → Machine
at m l ws = record { clock = m.clock; count = m.count; round = m.round; sender = record { waiting = ws; line = l }; desk = m.desk; bytes = m.bytes }

load_same : (c : Config) (m : Machine) (l : Line) (ws : List Packet) → tick c (loaded (at m l ws)) ≡ tick c (at m l ws)
unfolding at
load_same c m None [] = refl
load_same c m None (p ∷ ws) = refl
load_same c m (Some b) ws = refl

load_tick : (c : Config) (m : Machine) → tick c (loaded m) ≡ tick c m
unfolding at
load_tick c m = load_same c m m.sender.line m.sender.waiting

pub load_ticks : (c : Config) (m : Machine) (k : ℕ) → 1 ≤ k → ticks c k (loaded m) ≡ ticks c k m
load_ticks c m zero h = absurd (omega arith)
load_ticks c m (suc zero) h = load_tick c m
load_ticks c m (suc (suc k)) h = ap (tick c) (load_ticks c m (suc k) (omega arith))

pub ticks_add : (c : Config) (m : Machine) (a b : ℕ) → ticks c b (ticks c a m) ≡ ticks c (a + b) m
ticks_add c m a zero = ap (λ k. ticks c k m) (omega arith)
ticks_add c m a (suc b) = ap (tick c) (ticks_add c m a b) ∙ ap (λ k. ticks c k m) (sym (add-suc a b))

pub ticks_clock : (c : Config) (m : Machine) (k : ℕ) → (ticks c k m).clock ≡ m.clock + k
ticks_clock c m zero = omega arith
ticks_clock c m (suc k) = omega (arith, ticks_clock c m k)

-- The machine whose line has k bytes sent, k ticks after m had p on it with n bytes left.
module _ (c : Config) (m : Machine) (p : Packet) (s n : ℕ) (on : m.sender.line ≡ sending p s n) where
  sent : ℕ → Machine
  sent k = record {
    clock = m.clock + k;
    count = m.count;
    round = round_ticks k m.round;
    sender = record { waiting = m.sender.waiting; line = onward p s (n - k) };
    desk = depart (leaving (m.clock + k) p s (n - k)) m.desk;
    bytes = record { accepted = m.bytes.accepted; sent = raise p.session k m.bytes.sent; served = (ticks c k m).bytes.served };
  }

  sent_is : (k : ℕ) → send_bytes k (spent c k m) ≡ sent k
  unfolding sent
  sent_is k = λ x. record {
    clock = m.clock + k;
    count = m.count;
    round = round_ticks k m.round;
    sender = record { waiting = m.sender.waiting; line = line_after k (on x) };
    desk = depart (leaver_after (m.clock + k) k (on x)) m.desk;
    bytes = record { accepted = m.bytes.accepted; sent = sent_after k (on x) m.bytes.sent; served = (ticks c k m).bytes.served };
  }

  sent_none : 1 ≤ n → m ≡ sent 0
  unfolding sent
  sent_none h =
      let z : m.clock ≡ m.clock + 0 = omega arith in
      let y : n - 0 ≡ n = omega arith in
      let o : onward p s (n - 0) ≡ m.sender.line = ap (onward p s) y ∙ onward_some p s n h ∙ sym on in
      let l : leaving (m.clock + 0) p s (n - 0) ≡ None = leaving_some (m.clock + 0) p s (n - 0) (omega arith) in
      λ x. record {
        clock = z x;
        count = m.count;
        round = m.round;
        sender = record { waiting = m.sender.waiting; line = sym o x };
        desk = depart (sym l x) m.desk;
        bytes = record { accepted = m.bytes.accepted; sent = sym (raise_none p.session m.bytes.sent) x; served = m.bytes.served };
      }

  -- the same with p still on the line
  busy : ℕ → ℕ → Machine
  busy k y = record {
    clock = m.clock + k;
    count = m.count;
    round = round_ticks k m.round;
    sender = record { waiting = m.sender.waiting; line = sending p s y };
    desk = m.desk;
    bytes = record { accepted = m.bytes.accepted; sent = raise p.session k m.bytes.sent; served = (ticks c k m).bytes.served };
  }

  sent_busy : (k : ℕ) → k < n → sent k ≡ busy k (n - k)
  unfolding sent busy
  sent_busy k h =
      let o = onward_some p s (n - k) (omega arith) in
      let l = leaving_some (m.clock + k) p s (n - k) (omega arith) in
      λ x. record {
        clock = m.clock + k;
        count = m.count;
        round = round_ticks k m.round;
        sender = record { waiting = m.sender.waiting; line = o x };
        desk = depart (l x) m.desk;
        bytes = record { accepted = m.bytes.accepted; sent = raise p.session k m.bytes.sent; served = (ticks c k m).bytes.served };
      }

  busy_tick : (k : ℕ) → k < n → ticks c k m ≡ busy k (n - k) → tick c (ticks c k m) ≡ sent (suc k)
  unfolding sent busy
  busy_tick k h e =
      let z : m.clock + k + 1 ≡ m.clock + suc k = omega arith in
      let y : n - k - 1 ≡ n - suc k = omega arith in
      λ x. record {
        clock = (ap (λ (b : Machine). b.clock + 1) e ∙ z) x;
        count = (e x).count;
        round = (tick c (e x)).round;
        sender = record { waiting = (send (e x).clock (e x).sender.line (e x).sender.waiting).waiting; line = (ap (λ (b : Machine). (send b.clock b.sender.line b.sender.waiting).line) e ∙ ap (onward p s) y) x };
        desk = (ap (λ (b : Machine). (tick c b).desk) e ∙ (λ j. depart (leaving (z j) p s (y j)) m.desk)) x;
        bytes = record {
          accepted = (e x).bytes.accepted;
          sent = (ap (λ (b : Machine). (tick c b).bytes.sent) e ∙ raise_more p.session k m.bytes.sent) x;
          served = (tick c (ticks c k m)).bytes.served;
        };
      }

  sends : (k : ℕ) → 1 ≤ n → k ≤ n → ticks c k m ≡ sent k
  sends zero h l = sent_none h
  sends (suc k) h l = busy_tick k l (sends k h (omega arith) ∙ sent_busy k l)

  -- k ticks, while p has at least that many bytes left
  pub ticks_sending : (k : ℕ) → 1 ≤ n → k ≤ n → ticks c k m ≡ send_bytes k (spent c k m)
  ticks_sending k h l = sends k h l ∙ sym (sent_is k)

-- k ticks of an idle line
module _ (c : Config) (m : Machine) (on : m.sender.line ≡ free) (off : m.sender.waiting ≡ []) where
  rested : ℕ → Machine
  rested k = record {
    clock = m.clock + k;
    count = m.count;
    round = round_ticks k m.round;
    sender = record { waiting = []; line = free };
    desk = m.desk;
    bytes = record { accepted = m.bytes.accepted; sent = m.bytes.sent; served = (ticks c k m).bytes.served };
  }

  rests : (k : ℕ) → ticks c k m ≡ rested k
  unfolding rested
  rests zero =
      let z : m.clock ≡ m.clock + 0 = omega arith in
      λ x. record { clock = z x; count = m.count; round = m.round; sender = record { waiting = off x; line = on x }; desk = m.desk; bytes = m.bytes }
  rests (suc k) =
      let e = rests k in
      let z : m.clock + k + 1 ≡ m.clock + suc k = omega arith in
      λ x. record {
        clock = (ap (λ (b : Machine). b.clock + 1) e ∙ z) x;
        count = (e x).count;
        round = (tick c (e x)).round;
        sender = (tick c (e x)).sender;
        desk = (tick c (e x)).desk;
        bytes = record { accepted = (e x).bytes.accepted; sent = (tick c (e x)).bytes.sent; served = (tick c (ticks c k m)).bytes.served };
      }

  pub ticks_idle : (k : ℕ) → ticks c k m ≡ send_bytes k (spent c k m)
  unfolding rested
  ticks_idle k = rests k ∙ (λ x. record {
    clock = m.clock + k;
    count = m.count;
    round = round_ticks k m.round;
    sender = record { waiting = sym off x; line = line_after k (sym on x) };
    desk = depart (leaver_after (m.clock + k) k (sym on x)) m.desk;
    bytes = record { accepted = m.bytes.accepted; sent = sent_after k (sym on x) m.bytes.sent; served = (ticks c k m).bytes.served };
  })
