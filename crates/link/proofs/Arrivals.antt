-- An arrival goes as promised. Assumes nothing.
use Rattle.std.proofs.Common.{◌≡◌, ℕ, zero, suc, ◌+◌, ◌-◌, ◌^◌, ◌<◌, ◌≤◌, min, max, false, cond, ◌&&◌, eqb, ltb, leb, List, [], ◌∷◌, ◌++◌, map, length, get_or, is_ok, Ok, Err, vec_items, vec_len, Result, sym, refl, ap, ◌∙◌, subst, arith, deque_items}
use Rattle.std.proofs.lemmas.Bool.Decides.{nat_tests}
use Rattle.std.proofs.lemmas.Bool.{cond_both, cond-true, cond-false, lt-ltb, le-leb, ne_eqb, and_from, or_from}
use Rattle.waiting_line.specs.declared.line.WaitingLine.{Ghosts as WaitingLine}
use Rattle.slot_clock.specs.declared.clock.SlotClock.{Ghosts as SlotClock}
use Rattle.tick_machine.specs.declared.packet.Packet.{Packet}
use Rattle.tick_machine.specs.declared.refusal.LineRefusal.{LineRefusal}
use Rattle.tick_machine.specs.declared.refusal.Refusal.{Refusal}
use Rattle.tick_machine.specs.declared.call.Call.{Call}
use Rattle.tick_machine.specs.declared.call.Call.TheVariants.{Arrive}
use Rattle.tick_machine.specs.Lists.{total, only, All, none, more, Rising, insert}
use Rattle.tick_machine.specs.Slots.{owner}
use Rattle.tick_machine.specs.Round.{Round, granted, stamp, add}
use Rattle.tick_machine.specs.Owed.{from}
use Rattle.tick_machine.specs.Machine.{Config, Machine, raise, packet, accept, latest_tick}
use Rattle.tick_machine.specs.Life.{arrival, offer, told, arrived, accepted, steps, if_granted, after}
use Rattle.tick_machine.specs.Fit.{Fit}
use Rattle.tick_machine.specs.Books.{StaysSmall, WellKept}
use Rattle.tick_machine.proofs.Lists.{head, tail, all_map, length_insert_all}
use Rattle.tick_machine.proofs.Slots.{fresh}
use Rattle.tick_machine.proofs.Fits.{drafted_fits}
use Rattle.tick_machine.proofs.Histories.{Admitted, admitted}
use Rattle.waiting_line.specs.declared.pair.Pair.{Pair}
use Rattle.waiting_line.specs.Lines.{stamp_of, holds, put_answer, put_after}
use Rattle.slot_clock.specs.declared.refusal.ClockRefusal.{ClockRefusal}
use Rattle.slot_clock.specs.State.{SlotState, state_of, round_of}
use Rattle.slot_clock.specs.Calls.{owed_in_all, add_answer, add_left, add_after}
use Rattle.link.specs.declared.link.Link.{Link}
use Rattle.link.specs.Admission.{admission}
use Rattle.link.specs.Shown.{pair, Shown}
use Rattle.link.specs.Promise.{Led, Goes}
use Rattle.link.proofs.Tables.{by_number_accepted}
use Rattle.link.proofs.Admits.{arrival_offered, arrival_refused, many_waiting}
use Rattle.link.proofs.Reached.{lawful, orderly, reached_small, reached_well}

-- what is owed to the sessions is no more than what is owed
sum_zeros : (is : List ℕ) → total (λ b. b) (map (λ i. 0) is) ≡ 0
sum_zeros [] = refl
sum_zeros (i ∷ is) = omega (arith, sum_zeros is)

sum_both : (f g : ℕ → ℕ) (is : List ℕ) → total (λ b. b) (map (λ i. f i + g i) is) ≡ total (λ b. b) (map f is) + total (λ b. b) (map g is)
sum_both f g [] = refl
sum_both f g (i ∷ is) = omega (arith, sum_both f g is)

one_of : (k a n : ℕ) → total (λ b. b) (map (λ i. only (eqb k i) 1) (from a n)) ≤ only (leb a k) 1
one_of k a zero = omega arith
one_of k a (suc n) = let ih = one_of k (suc a) n in grind (arith, nat_tests)

owed_most : (ws : List ℕ) (a n : ℕ) (os : List ℕ) → total (λ b. b) (map (λ i. total (λ q. only (eqb (owner ws q) i) 1) os) (from a n)) ≤ length os
owed_most ws a n [] = omega (arith, sum_zeros (from a n))
owed_most ws a n (q ∷ os) =
    let both = sum_both (λ i. only (eqb (owner ws q) i) 1) (λ i. total (λ p. only (eqb (owner ws p) i) 1) os) (from a n) in
    let one = one_of (owner ws q) a n in
    let most : only (leb a (owner ws q)) 1 ≤ 1 = grind (arith, nat_tests) in
    let ih = owed_most ws a n os in
    omega arith

-- a slot clock that means this round server takes the packet as it does
module _ (ws : List ℕ) (t i n : ℕ) (r : Round) (is : r ≡ round_of (state_of ws t r)) (known : i < length ws) (some : 1 ≤ n) (short : n ≤ 65535) (owed : length r.owed + n ≤ 67107840) where
  pub clock_adds : add_answer (state_of ws t r) i n ≡ Ok (stamp ws i n r)
  clock_adds =
      let s = state_of ws t r in
      let few : owed_in_all s + n ≤ 67107840 = omega (arith, owed_most ws 0 (length ws) r.owed) in
      cond-true (ltb i (length ws)) _ _ (lt-ltb _ _ known)
      ∙ cond-true (ltb 0 n && leb n 65535) _ _ (and_from _ _ (lt-ltb _ _ some) (le-leb _ _ short))
      ∙ cond-true (leb (owed_in_all s + n) 67107840) _ _ (le-leb _ _ few) ∙ ap (λ x. Ok (stamp ws i n x)) (sym is)

  pub clock_added : add_after (state_of ws t r) i n ≡ state_of ws t (add ws i n r)
  clock_added = ap (add_left (state_of ws t r) i n) clock_adds ∙ ap (λ x. state_of ws t (add ws i n x)) (sym is)

-- an entry that is put in stands there with the others
all_inserted : {P : Packet → Type 0} (p : Packet) (ws : List Packet) → All P (insert (λ q. q.stamp) p ws) → P p × All P ws
all_inserted p [] h = (head h, none)
all_inserted {P} p (y ∷ ws) h =
    cond_both (ltb p.stamp y.stamp) (p ∷ y ∷ ws) (y ∷ insert (λ q. q.stamp) p ws) (λ vs. All P vs → P p × All P (y ∷ ws))
    (λ _ a. (head a, tail a))
    (λ _ a. let ih = all_inserted p ws (tail a) in (ih.0, more (head a) ih.1)) h

-- a stamp that keeps the order was not there
above_apart : (s : ℕ) (ws : List Packet) → All (λ q. s < q.stamp) ws → holds s (map pair ws) ≡ false
above_apart s [] h = refl
above_apart s (y ∷ ws) (more h t) = or_from _ _ (ne_eqb _ _ (λ e. omega arith)) (above_apart s ws t)

rising_apart : (p : Packet) (ws : List Packet) → Rising (λ q. q.stamp) (insert (λ q. q.stamp) p ws) → holds p.stamp (map pair ws) ≡ false
rising_apart p [] h = refl
rising_apart p (y ∷ ws) h =
    cond_both (ltb p.stamp y.stamp) (p ∷ y ∷ ws) (y ∷ insert (λ q. q.stamp) p ws) (λ vs. Rising (λ q. q.stamp) vs → holds p.stamp (map pair (y ∷ ws)) ≡ false)
    (λ _ r. above_apart p.stamp (y ∷ ws) r.0)
    (λ _ r. or_from _ _ (ne_eqb _ _ (λ e. omega (arith, (all_inserted p ws r.0).0))) (rising_apart p ws r.1)) h

map_insert : (p : Packet) (ws : List Packet) → insert stamp_of (pair p) (map pair ws) ≡ map pair (insert (λ q. q.stamp) p ws)
map_insert p [] = refl
map_insert p (y ∷ ws) =
    cond_both (ltb p.stamp y.stamp) (p ∷ y ∷ ws) (y ∷ insert (λ q. q.stamp) p ws)
    (λ vs. cond (ltb p.stamp y.stamp) (pair p ∷ pair y ∷ map pair ws) (pair y ∷ insert stamp_of (pair p) (map pair ws)) ≡ map pair vs)
    (λ e. cond-true _ _ _ e)
    (λ e. cond-false _ _ _ e ∙ ap (λ ts. pair y ∷ ts) (map_insert p ws))

-- a waiting line with room takes the packet's pair
module _ (ps : List Pair) (most : ℕ) (p : Packet) (ws : List Packet) (are : ps ≡ map pair ws) (room : length ps < most) (order : Rising (λ q. q.stamp) (insert (λ q. q.stamp) p ws)) where
  pub line_puts : put_answer ps most (pair p) ≡ Ok tt
  line_puts = cond-true (ltb (length ps) most) _ _ (lt-ltb _ _ room) ∙ cond-false (holds p.stamp ps) _ _ (ap (holds p.stamp) are ∙ rising_apart p ws order)

  pub line_put : put_after ps most (pair p) ≡ map pair (insert (λ q. q.stamp) p ws)
  line_put = ap (λ r. cond (is_ok r) (insert stamp_of (pair p) ps) ps) line_puts ∙ ap (insert stamp_of (pair p)) are ∙ map_insert p ws

module _ {W S : Type 0} {line : WaitingLine W} {clock : SlotClock S} {c : Config} {calls : List Call} {l : Link W S}
    (h : Led line clock c calls l) (i n tag : ℕ) where
  pub refused_goes : (e : Refusal) → Err e ≡ admission c i n (after c calls) → Goes line clock c calls l (Arrive i n tag) (told arrived (Err e)) l
  refused_goes e v =
      let r = arrival_refused c i n (after c calls) e v in
      record {
        led = record {
          drafted = h.drafted;
          shown = subst (λ (x : Result (ℕ × ℕ × ℕ) Refusal). Shown line clock c (steps c (if_granted x (accepted i n tag ∷ [])) (after c calls)) l) (sym r) h.shown;
        };
        told = ap (told arrived) (sym r);
        kept = λ _. refl;
        law = lawful c h.drafted (Arrive i n tag ∷ calls);
      }

  module _ (v : Ok tt ≡ admission c i n (after c calls)) where
    grants : arrival c i n (after c calls) ≡ Ok (offer c i n (after c calls))
    grants = arrival_offered c i n (after c calls) v

    pub a : Admitted c i n (after c calls)
    a = admitted c i n (after c calls) (offer c i n (after c calls)) grants

    -- the machine after it
    next_is : after c (Arrive i n tag ∷ calls) ≡ accept c i n tag (after c calls)
    next_is = ap (λ (x : Result (ℕ × ℕ × ℕ) Refusal). steps c (if_granted x (accepted i n tag ∷ [])) (after c calls)) grants

    next_small : StaysSmall c (accept c i n tag (after c calls))
    next_small = subst (StaysSmall c) next_is (reached_small c h.drafted (Arrive i n tag ∷ calls))

    next_well : WellKept c (accept c i n tag (after c calls))
    next_well = subst (WellKept c) next_is (reached_well c h.drafted (Arrive i n tag ∷ calls))

    pub arrive_known : i < vec_len l.sessions
    arrive_known = omega (arith, a.session, h.shown.many)

    fit : Fit c
    fit = drafted_fits c h.drafted

    -- its stamp, which is small, and the room for its bytes
    st : ℕ
    st = stamp c.weights i n (after c calls).round

    few : length (after c calls).round.owed + n ≤ 67107840
    few =
        let r = (after c calls).round in
        let got = granted c.weights i n r in
        let many = (fresh c.weights i n (max r.cursor (get_or r.next i 0)) fit.weights a.session a.some).count in
        omega (arith, next_small.owed, length_insert_all got r.owed)

    stamp_small : st < 144115188075855872
    unfolding st
    stamp_small =
        let p = packet c i n tag (after c calls) in
        let low = (all_inserted {P = λ q. q.stamp < get_or (accept c i n tag (after c calls)).round.next q.session 0} p (after c calls).sender.waiting next_small.stamps.waits).0 in
        omega (arith, low, next_small.next_limit i)

    adds : add_answer (clock.state l.slots) i n ≡ Ok st
    unfolding st
    adds =
        let m = after c calls in
        ap (λ x. add_answer x i n) h.shown.state_is
        ∙ clock_adds c.weights m.clock i n m.round (orderly c h.drafted calls).rounded a.session a.some (omega (arith, a.short, fit.largest)) few

    added : add_after (clock.state l.slots) i n ≡ state_of c.weights (after c calls).clock (add c.weights i n (after c calls).round)
    added =
        let m = after c calls in
        ap (λ x. add_after x i n) h.shown.state_is
        ∙ clock_added c.weights m.clock i n m.round (orderly c h.drafted calls).rounded a.session a.some (omega (arith, a.short, fit.largest)) few

    -- the slot clock does not refuse
    pub never_refused : (e : ClockRefusal) → Err e ≡ add_answer (clock.state l.slots) i n → ⊥
    never_refused e x = let y = x ∙ adds in let z : ◌≡◌ {A = ℕ} 0 1 = cc in omega arith

    module _ (s : ℕ) (is : Ok s ≡ add_answer (clock.state l.slots) i n) where
      same : s ≡ st
      same = let y = is ∙ adds in cc

      pair_is : record { stamp = s; packet = l.count } ≡ pair (packet c i n tag (after c calls))
      unfolding st
      pair_is = λ k. record { stamp = same k; packet = h.shown.count_is k }

      room : length (line.pairs l.waiting) < line.capacity l.waiting
      room = omega (arith, many_waiting h.shown, h.shown.capacity_is, a.room)

      -- the waiting line does not refuse
      puts : put_answer (line.pairs l.waiting) (line.capacity l.waiting) (record { stamp = s; packet = l.count }) ≡ Ok tt
      puts =
          ap (put_answer (line.pairs l.waiting) (line.capacity l.waiting)) pair_is
          ∙ line_puts (line.pairs l.waiting) (line.capacity l.waiting) (packet c i n tag (after c calls)) (after c calls).sender.waiting h.shown.pairs_are room next_well.rising

      pub never_full : (e : LineRefusal) → Err e ≡ put_answer (line.pairs l.waiting) (line.capacity l.waiting) (record { stamp = s; packet = l.count }) → ⊥
      never_full e x = let y = x ∙ puts in let z : ◌≡◌ {A = ℕ} 0 1 = cc in omega arith

      put : put_after (line.pairs l.waiting) (line.capacity l.waiting) (record { stamp = s; packet = l.count }) ≡ map pair (accept c i n tag (after c calls)).sender.waiting
      put =
          ap (put_after (line.pairs l.waiting) (line.capacity l.waiting)) pair_is
          ∙ line_put (line.pairs l.waiting) (line.capacity l.waiting) (packet c i n tag (after c calls)) (after c calls).sender.waiting h.shown.pairs_are room next_well.rising

      pub accepted_fits : get_or (map (λ x. x.accepted) (vec_items l.sessions)) i 0 + n < 2 ^ 64
      accepted_fits =
          subst (λ xs. get_or xs i 0 + n < 2 ^ 64) (sym h.shown.accepted_are)
          (omega (arith, (reached_small c h.drafted calls).accepted i, (reached_small c h.drafted calls).clock, a.short, fit.largest))

      module _ (cursor latest : ℕ) (at : cursor ≡ (clock.state l.slots).cursor) (late : latest ≡ min (min (l.clock + (s - cursor)) 18446744073709551615 + l.largest) 18446744073709551615) where
        latest_is : latest ≡ latest_tick c (after c calls) st
        unfolding st
        latest_is =
            let v : cursor ≡ (after c calls).round.cursor = at ∙ ap (λ (x : SlotState). x.cursor) h.shown.state_is in
            let k : l.clock ≡ (after c calls).clock = h.shown.clock_is in
            let g : l.largest ≡ c.largest = h.shown.largest_is in
            omega (arith, same, stamp_small, (reached_small c h.drafted calls).clock, fit.largest)

        -- the packet as the table has it
        new_is : record { number = l.count; session = i; size = n; tag = tag; stamp = s; latest = latest } ≡ packet c i n tag (after c calls)
        unfolding st
        new_is = λ k. record { number = h.shown.count_is k; session = i; size = n; tag = tag; stamp = same k; latest = latest_is k }

        pub accepted_goes : (l' : Link W S)
            → clock.state l'.slots ≡ add_after (clock.state l.slots) i n
            → line.pairs l'.waiting ≡ put_after (line.pairs l.waiting) (line.capacity l.waiting) (record { stamp = s; packet = l.count }) → line.capacity l'.waiting ≡ line.capacity l.waiting
            → vec_items l'.table ≡ vec_items l.table ++ record { number = l.count; session = i; size = n; tag = tag; stamp = s; latest = latest } ∷ []
            → l'.count ≡ min (l.count + 1) 18446744073709551615
            → map (λ x. x.accepted) (vec_items l'.sessions) ≡ raise i n (map (λ x. x.accepted) (vec_items l.sessions))
            → map (λ x. x.sent) (vec_items l'.sessions) ≡ map (λ x. x.sent) (vec_items l.sessions) → vec_len l'.sessions ≡ vec_len l.sessions
            → l'.number ≡ l.number → l'.largest ≡ l.largest → l'.clock ≡ l.clock → l'.line ≡ l.line → l'.left ≡ l.left → l'.out ≡ l.out → l'.filed ≡ l.filed → l'.returned ≡ l.returned
            → Goes line clock c calls l (Arrive i n tag) (told arrived (Ok (l.count, s, latest))) l'
        unfolding st
        accepted_goes l' es ep ec et ei ea eb ev en em ek el ef eo eg er =
            let x = h.shown in
            let m = after c calls in
            let p = packet c i n tag m in
            let low : All (λ q. q.number < m.count) m.sender.waiting = all_map (reached_well c h.drafted calls).proper.waits (λ q w. w.number) in
            let shown : Shown line clock c (accept c i n tag m) l'
            = record {
              pairs_are = ep ∙ put;
              capacity_is = ec ∙ x.capacity_is;
              state_is = es ∙ added;
              number_is = en ∙ x.number_is;
              largest_is = em ∙ x.largest_is;
              many = ev ∙ x.many;
              accepted_are = ea ∙ ap (raise i n) x.accepted_are;
              sent_are = eb ∙ x.sent_are;
              clock_is = ek ∙ x.clock_is;
              count_is = omega (arith, ei, x.count_is, (reached_small c h.drafted calls).count, (reached_small c h.drafted calls).clock);
              line_is = el ∙ x.line_is;
              table_is = et ∙ (λ k. x.table_is k ++ new_is k ∷ []) ∙ sym (by_number_accepted p m.sender.waiting low);
              left_is = ap deque_items ef ∙ x.left_is;
              out_is = ap vec_items eo ∙ x.out_is;
              filed_is = eg ∙ x.filed_is;
              returned_is = er ∙ x.returned_is;
            } in
            record {
              led = record { drafted = h.drafted; shown = subst (λ (b : Machine). Shown line clock c b l') (sym next_is) shown };
              told = (λ k. arrived (x.count_is k, same k, latest_is k)) ∙ ap (told arrived) (sym grants);
              kept = λ q. let y : ◌≡◌ {A = ℕ} 0 1 = cc in absurd (omega arith);
              law = lawful c h.drafted (Arrive i n tag ∷ calls);
            }
