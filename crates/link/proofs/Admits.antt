-- The checks of an arrival. Assumes nothing.
use Rattle.std.proofs.Common.{◌≡◌, ℕ, ◌+◌, ◌<◌, ◌≤◌, Bool, true, false, cond, ltb, leb, length, Ok, Err, vec_len, Result, sym, refl, ap, ◌∙◌, arith, deque_len}
use lib.ListN.{length-map}
use Rattle.std.proofs.lemmas.Bool.{lt-ltb, le-ltb, le-leb, cond-true, cond-false}
use Rattle.waiting_line.specs.declared.line.WaitingLine.{Ghosts as WaitingLine}
use Rattle.slot_clock.specs.declared.clock.SlotClock.{Ghosts as SlotClock}
use Rattle.tick_machine.specs.declared.refusal.LineRefusal.{LineRefusal}
use Rattle.tick_machine.specs.declared.refusal.LineRefusal.TheVariants.{Full}
use Rattle.tick_machine.specs.declared.refusal.Refusal.{Refusal}
use Rattle.tick_machine.specs.declared.refusal.Refusal.TheVariants.{UnknownSession, Empty, TooLong, NoRoom, TooManyUnsettled}
use Rattle.tick_machine.specs.Machine.{Config, Machine}
use Rattle.tick_machine.specs.Life.{on_line, unsettled, offer, arrival}
use Rattle.waiting_line.specs.Lines.{room_answer}
use Rattle.link.specs.declared.link.Link.{Link}
use Rattle.link.specs.Admission.{admission}
use Rattle.link.specs.Shown.{pair, Shown}
use Rattle.link.proofs.Tables.{by_number_length}

-- a packet that is admitted is offered its number, stamp and latest tick
abbrev offered : Result (Unit {0}) Refusal → ℕ × ℕ × ℕ → Result (ℕ × ℕ × ℕ) Refusal
offered (Ok u) a = Ok a
offered (Err e) a = Err e

offered_cond : (b : Bool) (x : Result (Unit {0}) Refusal) (e : Refusal) (a : ℕ × ℕ × ℕ) → cond b (offered x a) (Err e) ≡ offered (cond b x (Err e)) a
offered_cond true x e a = refl
offered_cond false x e a = refl

arrival_is : (c : Config) (i n : ℕ) (m : Machine) → arrival c i n m ≡ offered (admission c i n m) (offer c i n m)
arrival_is c i n m =
    let a = offer c i n m in
    let five : Result (Unit {0}) Refusal = cond (ltb (unsettled m) 1024) (Ok tt) (Err TooManyUnsettled) in
    let four : Result (Unit {0}) Refusal = cond (ltb (length m.sender.waiting) c.capacity) five (Err (NoRoom Full)) in
    let three : Result (Unit {0}) Refusal = cond (leb n c.largest) four (Err TooLong) in
    let two : Result (Unit {0}) Refusal = cond (ltb 0 n) three (Err Empty) in
    ap (λ r. cond (ltb i (length c.weights)) r (Err UnknownSession))
    (ap (λ r. cond (ltb 0 n) r (Err Empty))
    (ap (λ r. cond (leb n c.largest) r (Err TooLong))
    (ap (λ r. cond (ltb (length m.sender.waiting) c.capacity) r (Err (NoRoom Full)))
    (offered_cond (ltb (unsettled m) 1024) (Ok tt) TooManyUnsettled a)
    ∙ offered_cond (ltb (length m.sender.waiting) c.capacity) five (NoRoom Full) a)
    ∙ offered_cond (leb n c.largest) four TooLong a)
    ∙ offered_cond (ltb 0 n) three Empty a)
    ∙ offered_cond (ltb i (length c.weights)) two UnknownSession a

pub arrival_offered : (c : Config) (i n : ℕ) (m : Machine) → Ok tt ≡ admission c i n m → arrival c i n m ≡ Ok (offer c i n m)
arrival_offered c i n m e = arrival_is c i n m ∙ ap (λ r. offered r (offer c i n m)) (sym e)

pub arrival_refused : (c : Config) (i n : ℕ) (m : Machine) (x : Refusal) → Err x ≡ admission c i n m → arrival c i n m ≡ Err x
arrival_refused c i n m x e = arrival_is c i n m ∙ ap (λ r. offered r (offer c i n m)) (sym e)

-- what a link and the machine that it shows have in common
module _ {W S : Type 0} {line : WaitingLine W} {clock : SlotClock S} {c : Config} {m : Machine} {l : Link W S} (s : Shown line clock c m l) where
  pub many_waiting : length (line.pairs l.waiting) ≡ length m.sender.waiting
  many_waiting = ap length s.pairs_are ∙ length-map m.sender.waiting pair

  pub many_tabled : vec_len l.table ≡ length m.sender.waiting
  many_tabled = l.table.ok.0 ∙ ap length s.table_is ∙ by_number_length m.sender.waiting

  pub many_left : deque_len l.left ≡ length m.desk.left
  many_left = l.left.ok.0 ∙ ap length s.left_is

  pub many_out : vec_len l.out ≡ length m.desk.out
  many_out = l.out.ok.0 ∙ ap length s.out_is

  pub many_sending : on_line l.line ≡ on_line m.sender.line
  many_sending = ap on_line s.line_is

  pub many_unsettled : vec_len l.table + on_line l.line + deque_len l.left + vec_len l.out ≡ unsettled m
  many_unsettled = omega (arith, many_tabled, many_left, many_out, many_sending)

  module _ (i n : ℕ) (known : i < vec_len l.sessions) (some : n ≡ 0 → ⊥) (short : n ≤ l.largest) where
    before : (x : Result (Unit {0}) Refusal) → cond (ltb (length m.sender.waiting) c.capacity) (cond (ltb (unsettled m) 1024) (Ok tt) (Err TooManyUnsettled)) (Err (NoRoom Full)) ≡ x → x ≡ admission c i n m
    before x e = sym (
        cond-true (ltb i (length c.weights)) _ _ (lt-ltb _ _ (omega (arith, s.many))) ∙ cond-true (ltb 0 n) _ _ (lt-ltb _ _ (omega (arith, some)))
        ∙ cond-true (leb n c.largest) _ _ (le-leb _ _ (omega (arith, s.largest_is))) ∙ e
        )

    room_is : room_answer (line.pairs l.waiting) (line.capacity l.waiting) ≡ cond (ltb (length m.sender.waiting) c.capacity) (Ok tt) (Err Full)
    room_is = λ k. cond (ltb (many_waiting k) (s.capacity_is k)) (Ok tt) (Err Full)

    ok_err : (b : Bool) (e : LineRefusal) → ◌≡◌ {A = Result (Unit {0}) LineRefusal} (Err e) (cond b (Ok tt) (Err Full)) → (b ≡ false) × (e ≡ Full)
    ok_err true e h = let z : ◌≡◌ {A = ℕ} 0 1 = cc in absurd (omega arith)
    ok_err false e h = (refl, cc)

    err_ok : (b : Bool) (u : Unit {0}) → ◌≡◌ {A = Result (Unit {0}) LineRefusal} (Ok u) (cond b (Ok tt) (Err Full)) → b ≡ true
    err_ok true u h = refl
    err_ok false u h = let z : ◌≡◌ {A = ℕ} 0 1 = cc in absurd (omega arith)

    pub full_refused : (e : LineRefusal) → Err e ≡ room_answer (line.pairs l.waiting) (line.capacity l.waiting) → Err (NoRoom e) ≡ admission c i n m
    full_refused e h =
        let f = ok_err (ltb (length m.sender.waiting) c.capacity) e (h ∙ room_is) in
        ap (λ x. Err (NoRoom x)) f.1 ∙ before _ (cond-false (ltb (length m.sender.waiting) c.capacity) _ _ f.0)

    module _ (u : Unit {0}) (room : Ok u ≡ room_answer (line.pairs l.waiting) (line.capacity l.waiting)) where
      roomy : ltb (length m.sender.waiting) c.capacity ≡ true
      roomy = err_ok (ltb (length m.sender.waiting) c.capacity) u (room ∙ room_is)

      pub crowded_refused : 1024 ≤ vec_len l.table + on_line l.line + deque_len l.left + vec_len l.out → Err TooManyUnsettled ≡ admission c i n m
      crowded_refused h = before _ (cond-true (ltb (length m.sender.waiting) c.capacity) _ _ roomy ∙ cond-false (ltb (unsettled m) 1024) _ _ (le-ltb _ _ (omega (arith, many_unsettled))))

      pub all_admitted : vec_len l.table + on_line l.line + deque_len l.left + vec_len l.out < 1024 → Ok tt ≡ admission c i n m
      all_admitted h = before _ (cond-true (ltb (length m.sender.waiting) c.capacity) _ _ roomy ∙ cond-true (ltb (unsettled m) 1024) _ _ (lt-ltb _ _ (omega (arith, many_unsettled))))
