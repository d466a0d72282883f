-- The figures of the sessions are what happened. Assumes nothing.
use Rattle.std.proofs.Common.{◌≡◌, ℕ, zero, suc, ◌+◌, ◌-◌, ◌<◌, ◌≤◌, max, eqb, List, [], ◌∷◌, length, get_or, replicate, Some, None, Option, sym, refl, ap, ◌∙◌, subst, ⊎_elim, arith, length-set, get_or-set_other, get_or-set_same}
use lib.ListN.{length-replicate}
use Rattle.std.proofs.lemmas.Bool.Decides.{nat_tests}
use Rattle.std.proofs.lemmas.Bool.{cases_eq, eq-eqb, ne_eqb}
use Rattle.tick_machine.specs.Lists.{total, only, All}
use Rattle.tick_machine.specs.Slots.{round_length, owner}
use Rattle.tick_machine.specs.Round.{Round, owed_to, granted, stamp, serve, served_slot}
use Rattle.tick_machine.specs.Sender.{Packet, Departed, Line, onward, leaving, byte_of, load, send, sent_off}
use Rattle.tick_machine.specs.Desk.{Desk}
use Rattle.tick_machine.specs.Machine.{Config, packet, raise, one_more, owner_of}
use Rattle.tick_machine.specs.Story.{Served, Story, begun, serving, going, accepting, ticking}
use Rattle.tick_machine.specs.Law.{On, Unsent, served_of, sent_on, sent_of}
use Rattle.tick_machine.specs.Books.{accepted_of, line_rest, unsent_of, UnderWay, FiguresTold, FiguresAddUp}
use Rattle.tick_machine.proofs.Lists.{head, total_insert, total_insert_all, only_yes, only_no, only_at_most}
use Rattle.tick_machine.proofs.Windows.{owner_there}
use Rattle.tick_machine.proofs.Slots.{Fresh}
use Rattle.tick_machine.proofs.Work.{line, unsent_map}
use Rattle.tick_machine.proofs.Serving.{own, serve_next, got_own}
use Rattle.tick_machine.proofs.Good.{Good, desked, sizes_some}

-- the figures are what happened, and add up
pub record Told (c : Config) (y : Story) : Type 0 where
  pub accepted_many : length y.machine.bytes.accepted ≡ length c.weights
  pub sent_many : length y.machine.bytes.sent ≡ length c.weights
  pub served_many : length y.machine.bytes.served ≡ length c.weights
  pub next_many : length y.machine.round.next ≡ length c.weights
  pub accepted : (i : ℕ) → get_or y.machine.bytes.accepted i 0 ≡ accepted_of i y
  pub sent : (i : ℕ) → get_or y.machine.bytes.sent i 0 ≡ sent_of i y
  pub served : (i : ℕ) → get_or y.machine.bytes.served i 0 ≡ served_of c.weights i y
  pub served_or_owed : (i : ℕ) → accepted_of i y ≡ served_of c.weights i y + owed_to c.weights i y.machine.round
  pub sent_or_unsent : (i : ℕ) → accepted_of i y ≡ sent_of i y + unsent_of i y.machine.sender
  pub sent_small : (i : ℕ) → get_or y.machine.bytes.sent i 0 ≤ y.machine.clock
  pub served_small : (i : ℕ) → get_or y.machine.bytes.served i 0 ≤ y.machine.clock

pub figures_told : (c : Config) (y : Story) → Told c y → FiguresTold c y
figures_told c y f = record { accepted = f.accepted; sent = f.sent; served = f.served }

pub figures_add_up : (c : Config) (y : Story) → Told c y → FiguresAddUp c y.machine
figures_add_up c y f = record {
  accepted_many = f.accepted_many;
  sent_many = f.sent_many;
  served_many = f.served_many;
  next_many = f.next_many;
  served_or_owed = λ i. omega (arith, f.accepted i, f.served i, f.served_or_owed i);
  sent_or_unsent = λ i. omega (arith, f.accepted i, f.sent i, f.sent_or_unsent i);
}

-- what is added at the place j
abbrev at_place : ℕ → Option ℕ → ℕ
at_place j None = 0
at_place j (Some i) = only (eqb i j) 1

at_place_small : (j : ℕ) (o : Option ℕ) → at_place j o ≤ 1
at_place_small j None = omega arith
at_place_small j (Some i) = only_at_most (eqb i j) 1

-- the place is there
abbrev InRange : Option ℕ → ℕ → Type 0
InRange None n = Unit {0}
InRange (Some i) n = i < n

pub getD_raise : (i n : ℕ) (xs : List ℕ) (j : ℕ) → i < length xs → get_or (raise i n xs) j 0 ≡ get_or xs j 0 + only (eqb i j) n
getD_raise i n xs j l =
    ⊎_elim
    (λ (e : i ≡ j).
    let here = get_or-set_same xs i (get_or xs i 0 + n) 0 l in
    let at_i : get_or (raise i n xs) i 0 ≡ get_or xs i 0 + only (eqb i i) n = omega (arith, only_yes (eqb i i) n (eq-eqb i i refl)) in
    subst (λ x. get_or (raise i n xs) x 0 ≡ get_or xs x 0 + only (eqb i x) n) e at_i)
    (λ (d : i ≡ j → ⊥). omega (arith, get_or-set_other xs i j (get_or xs i 0 + n) 0 (λ e. d (sym e)), only_no (eqb i j) n (ne_eqb i j d)))
    (cases_eq i j)

one_more_at : (o : Option ℕ) (xs : List ℕ) (j : ℕ) → InRange o (length xs) → get_or (one_more o xs) j 0 ≡ get_or xs j 0 + at_place j o
one_more_at None xs j l = omega arith
one_more_at (Some i) xs j l = getD_raise i 1 xs j l

one_more_length : (o : Option ℕ) (xs : List ℕ) → length (one_more o xs) ≡ length xs
one_more_length None xs = refl
one_more_length (Some i) xs = length-set xs i (get_or xs i 0 + 1)

pub getD_zeros : (n j : ℕ) → ◌≡◌ {A = ℕ} (get_or (replicate n 0) j 0) 0
getD_zeros zero j = refl
getD_zeros (suc n) zero = refl
getD_zeros (suc n) (suc j) = getD_zeros n j

-- the bytes of session j of the packets that are gone, and that wait
abbrev gone_of : ℕ → List Departed → ℕ
gone_of j gone = total (λ (d : Departed). only (eqb d.packet.session j) d.packet.size) gone

abbrev pub bytes_of : ℕ → List Packet → ℕ
bytes_of j ws = total (λ p. only (eqb p.session j) p.size) ws

onward_sent : (j tick started n : ℕ) (p : Packet) (gone : List Departed)
    → sent_on j (onward p started n) + gone_of j (going (leaving tick p started n) gone) ≡ only (eqb p.session j) (p.size - n) + gone_of j gone
onward_sent j tick started zero p gone =
    let whole : p.size - 0 ≡ p.size = omega arith in
    omega (arith, ap (only (eqb p.session j)) whole)
onward_sent j tick started (suc n) p gone = refl

onward_rest : (j started n : ℕ) (p : Packet) → line_rest j (onward p started n) ≡ only (eqb p.session j) n
onward_rest j started zero p = grind (arith, nat_tests)
onward_rest j started (suc n) p = refl

-- a tick sends the byte that it counts
send_sent : (j clock : ℕ) (l : Line) (ws : List Packet) (gone : List Departed) → UnderWay l → All (λ p. 1 ≤ p.size) ws
    → sent_on j (send clock l ws).line + gone_of j (going (sent_off clock l ws) gone)
    ≡ (sent_on j l + gone_of j gone) + at_place j (byte_of (load clock l ws).line)
send_sent j clock None [] gone b h = omega arith
send_sent j clock None (p ∷ ws) gone b h =
    let o = onward_sent j (clock + 1) clock (p.size - 1) p gone in
    let one : p.size - (p.size - 1) ≡ 1 = omega (arith, head h) in
    omega (arith, ap (only (eqb p.session j)) one)
send_sent j clock (Some on_it) ws gone b h =
    let o = onward_sent j (clock + 1) on_it.started (on_it.rest - 1) on_it.packet gone in
    let split : only (eqb on_it.packet.session j) (on_it.packet.size - (on_it.rest - 1)) ≡ only (eqb on_it.packet.session j) (on_it.packet.size - on_it.rest) + only (eqb on_it.packet.session j) 1 = grind (arith, nat_tests) in
    omega arith

-- and so much less is unsent
send_rest : (j clock : ℕ) (l : Line) (ws : List Packet) → UnderWay l → All (λ p. 1 ≤ p.size) ws
    → (line_rest j (send clock l ws).line + bytes_of j (send clock l ws).waiting) + at_place j (byte_of (load clock l ws).line) ≡ line_rest j l + bytes_of j ws
send_rest j clock None [] b h = refl
send_rest j clock None (p ∷ ws) b h =
    let o = onward_rest j clock (p.size - 1) p in
    let some = head h in
    let split : only (eqb p.session j) (p.size - 1) + only (eqb p.session j) 1 ≡ only (eqb p.session j) p.size = grind (arith, nat_tests) in
    omega arith
send_rest j clock (Some on_it) ws b h =
    let o = onward_rest j on_it.started (on_it.rest - 1) on_it.packet in
    let split : only (eqb on_it.packet.session j) (on_it.rest - 1) + only (eqb on_it.packet.session j) 1 ≡ only (eqb on_it.packet.session j) on_it.rest = grind (arith, nat_tests) in
    omega arith

-- a tick serves the slot that it counts
serve_counted : (weights : List ℕ) (j t : ℕ) (os : List ℕ) (bs : List Served)
    → total (λ (b : Served). only (eqb (owner weights b.slot) j) 1) (serving t (served_slot os) bs)
    ≡ total (λ (b : Served). only (eqb (owner weights b.slot) j) 1) bs + at_place j (owner_of weights (served_slot os))
serve_counted weights j t [] bs = omega arith
serve_counted weights j t (q ∷ qs) bs = omega arith

serve_owed : (weights : List ℕ) (j : ℕ) (os : List ℕ) (r : Round)
    → own weights j (serve os r).owed + at_place j (owner_of weights (served_slot os)) ≡ own weights j os
serve_owed weights j [] r = refl
serve_owed weights j (q ∷ qs) r = omega arith

served_in_range : (weights : List ℕ) (os : List ℕ) → 1 ≤ round_length weights → InRange (owner_of weights (served_slot os)) (length weights)
served_in_range weights [] h = tt
served_in_range weights (q ∷ qs) h = owner_there weights q h

byte_in_range : (n clock : ℕ) (l : Line) (ws : List Packet) → On (λ p. p.session < n) l → All (λ p. p.session < n) ws → InRange (byte_of (load clock l ws).line) n
byte_in_range n clock None [] h k = tt
byte_in_range n clock None (p ∷ ws) h k = head k
byte_in_range n clock (Some b) ws h k = line h

-- an unsent packet is of a session of the link
pub sessions : {c : Config} {y : Story} → 1 ≤ round_length c.weights → Good c y → Unsent (λ p. p.session < length c.weights) y.machine.sender
sessions {c} {y} h g = unsent_map g.sane (λ p k. subst (λ i. i < length c.weights) k.mine (owner_there c.weights p.stamp h))

pub tick_figures : (c : Config) (y : Story) → 1 ≤ round_length c.weights → Good c y → Told c y → Told c (ticking c y)
tick_figures c y h g f =
    let m = y.machine in
    let l = m.sender.line in
    let ws = m.sender.waiting in
    let os = m.round.owed in
    let u = sessions h g in
    let sent-byte = byte_of (load m.clock l ws).line in
    let served-byte = owner_of c.weights (served_slot os) in
    let sent_range : InRange sent-byte (length m.bytes.sent)
    = subst (InRange sent-byte) (sym f.sent_many) (byte_in_range (length c.weights) m.clock l ws u.on u.waits) in
    let served_range : InRange served-byte (length m.bytes.served)
    = subst (InRange served-byte) (sym f.served_many) (served_in_range c.weights os h) in
    record {
      accepted_many = f.accepted_many;
      sent_many = one_more_length sent-byte m.bytes.sent ∙ f.sent_many;
      served_many = one_more_length served-byte m.bytes.served ∙ f.served_many;
      next_many = ap length (sym (serve_next os m.round)) ∙ f.next_many;
      accepted = f.accepted;
      sent = λ i.
          omega (arith, one_more_at sent-byte m.bytes.sent i sent_range, send_sent i m.clock l ws y.gone g.under_way (sizes_some g), f.sent i);
      served = λ i.
          omega (arith, one_more_at served-byte m.bytes.served i served_range, serve_counted c.weights i (m.clock + 1) os y.served, f.served i);
      served_or_owed = λ i.
          omega (arith, serve_counted c.weights i (m.clock + 1) os y.served, serve_owed c.weights i os m.round, f.served_or_owed i);
      sent_small = λ i. omega (arith, one_more_at sent-byte m.bytes.sent i sent_range, at_place_small i sent-byte, f.sent_small i);
      served_small = λ i. omega (arith, one_more_at served-byte m.bytes.served i served_range, at_place_small i served-byte, f.served_small i);
      sent_or_unsent = λ i.
          let sent = send_sent i m.clock l ws y.gone g.under_way (sizes_some g) in
          omega (arith, sent, send_rest i m.clock l ws g.under_way (sizes_some g), f.sent_or_unsent i);
    }

pub accept_figures : (c : Config) (y : Story) (i n tag : ℕ) → i < length c.weights
    → Fresh c.weights i n (max y.machine.round.cursor (get_or y.machine.round.next i 0)) (granted c.weights i n y.machine.round)
    → Told c y → Told c (accepting c i n tag y)
accept_figures c y i n tag l new f =
    let m = y.machine in
    let got = granted c.weights i n m.round in
    let low = max m.round.cursor (get_or m.round.next i 0) in
    let it = packet c i n tag m in
    let range : i < length m.bytes.accepted = omega (arith, f.accepted_many) in
    record {
      accepted_many = length-set m.bytes.accepted i (get_or m.bytes.accepted i 0 + n) ∙ f.accepted_many;
      sent_many = f.sent_many;
      served_many = f.served_many;
      next_many = length-set m.round.next i (stamp c.weights i n m.round + 1) ∙ f.next_many;
      accepted = λ j. omega (arith, getD_raise i n m.bytes.accepted j range, f.accepted j);
      sent = f.sent;
      served = f.served;
      served_or_owed = λ j.
          let more-owed = total_insert_all (λ q. only (eqb (owner c.weights q) j) 1) got m.round.owed in
          omega (arith, got_own c.weights i n low got new j, f.served_or_owed j);
      sent_or_unsent = λ j.
          let more-waiting = total_insert (λ p. p.stamp) (λ p. only (eqb p.session j) p.size) it m.sender.waiting in
          omega (arith, f.sent_or_unsent j);
      sent_small = f.sent_small;
      served_small = f.served_small;
    }

pub desk_figures : (c : Config) (d : Desk → Desk) (y : Story) → Told c y → Told c (desked d y)
desk_figures c d y f = record {
  accepted_many = f.accepted_many;
  sent_many = f.sent_many;
  served_many = f.served_many;
  next_many = f.next_many;
  accepted = f.accepted;
  sent = f.sent;
  served = f.served;
  served_or_owed = f.served_or_owed;
  sent_or_unsent = f.sent_or_unsent;
  sent_small = f.sent_small;
  served_small = f.served_small;
}

pub begun_figures : (c : Config) → Told c (begun c)
begun_figures c =
    let many : length (replicate (length c.weights) (zero)) ≡ length c.weights = length-replicate (length c.weights) zero in
    record {
      accepted_many = many;
      sent_many = many;
      served_many = many;
      next_many = many;
      accepted = getD_zeros (length c.weights);
      sent = getD_zeros (length c.weights);
      served = getD_zeros (length c.weights);
      served_or_owed = λ i. refl;
      sent_or_unsent = λ i. refl;
      sent_small = λ i. omega (arith, getD_zeros (length c.weights) i);
      served_small = λ i. omega (arith, getD_zeros (length c.weights) i);
    }
