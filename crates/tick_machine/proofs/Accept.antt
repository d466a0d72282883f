-- An accepted packet keeps what the law's induction keeps. Assumes nothing.
use Rattle.std.proofs.Common.{◌≡◌, ℕ, ◌+◌, ◌<◌, ◌≤◌, max, eqb, ltb, leb, List, [], ◌∷◌, length, get_or, sym, refl, ◌∙◌, subst, inl, inr, ⊎_elim, arith, length-set}
use Rattle.std.proofs.lemmas.Bool.Decides.{nat_tests}
use Rattle.std.proofs.lemmas.Bool.{lt-leb}
use Rattle.tick_machine.specs.Lists.{only, All, more, final}
use Rattle.tick_machine.specs.Slots.{owner}
use Rattle.tick_machine.specs.Round.{granted}
use Rattle.tick_machine.specs.Sender.{Packet}
use Rattle.tick_machine.specs.Machine.{Config, packet}
use Rattle.tick_machine.specs.Story.{Served, Story, accepting}
use Rattle.tick_machine.specs.Law.{Unsent}
use Rattle.tick_machine.proofs.Lists.{all_map, all_insert, rising_insert, total_insert, total_insert_all, length_insert_all, only_no, only_at_most, only_mono}
use Rattle.tick_machine.proofs.Slots.{Fresh}
use Rattle.tick_machine.proofs.Known.{known_apart, known_more, known_new}
use Rattle.tick_machine.proofs.OwedSlots.{add_shown}
use Rattle.tick_machine.proofs.Work.{on_zip, unsent_map, unsent_zip, unsent_insert}
use Rattle.tick_machine.proofs.Serving.{upto, upto_all, got_own, got_above}
use Rattle.tick_machine.proofs.Good.{later, Backlog, Sane, Open, Closed, Stage, Good}

-- if the packets of session i that wait have stamps of at most s, none is later
none_later : (i s : ℕ) (ws : List Packet) → All (λ p. p.session ≡ i → p.stamp ≤ s) ws → later i s ws ≡ 0
none_later i s [] h = refl
none_later i s (p ∷ ws) (more h t) = let ih = none_later i s ws t in grind (arith, nat_tests)

module _ (c : Config) (y : Story) (g : Good c y) (i n tag : ℕ) (weights : All (λ w. 1 ≤ w) c.weights)
    (i-in : i < length c.weights) (n-some : 1 ≤ n) (n-fits : n ≤ c.largest)
    (f : Fresh c.weights i n (max y.machine.round.cursor (get_or y.machine.round.next i 0)) (granted c.weights i n y.machine.round)) where
  low : ℕ
  low = max y.machine.round.cursor (get_or y.machine.round.next i 0)

  got : List ℕ
  got = granted c.weights i n y.machine.round

  it : Packet
  it = packet c i n tag y.machine

  -- an unsent packet of the same session has a stamp below the place that the slots are looked for from
  below : (p : Packet) → Sane c y.machine.round.next y.longest p → i ≡ p.session → p.stamp < low
  unfolding low
  below p k e =
      let l : p.stamp < get_or y.machine.round.next i 0 = subst (λ x. p.stamp < get_or y.machine.round.next x 0) (k.mine ∙ sym e) k.known in
      omega arith

  accept_backlog : Backlog (accepting c i n tag y)
  unfolding low got it
  accept_backlog x =
      let before = g.backlog x in
      let d = total_insert (λ q. q.stamp) (λ p. only (leb p.stamp x) p.size) it y.machine.sender.waiting in
      let o = total_insert_all (λ q. only (leb q x) 1) got y.machine.round.owed in
      let all : final 0 got ≤ x → upto x got ≡ n = λ l. upto_all (final 0 got) x got f.top l ∙ f.count in
      grind (arith, nat_tests)

  -- a packet that is known keeps its stage
  accept_stage : (p : Packet) → Sane c y.machine.round.next y.longest p → Stage c y p → Stage c (accepting c i n tag y) p
  unfolding low got it
  accept_stage p k st =
      let s = p.stamp in
      let j = p.session in
      let ws = y.machine.sender.waiting in
      let os = y.machine.round.owed in
      let at-due = total_insert (λ q. q.stamp) (λ p. only (leb p.stamp s) p.size) it ws in
      let at-later = total_insert (λ q. q.stamp) (λ p. only (eqb p.session j) (only (ltb s p.stamp) p.size)) it ws in
      let at-times = total_insert_all (λ q. only (eqb q s) 1) got os in
      let at_own = total_insert_all (λ q. only (eqb (owner c.weights q) j) 1) got os in
      let at_above = total_insert_all (λ q. only (eqb (owner c.weights q) j) (only (ltb s q) 1)) got os in
      -- what it adds to the waiting bytes of its session, it adds to the owed ones
      let to-own = got_own c.weights i n low got f j in
      let to-above = got_above c.weights i n low got f j s (below p k) in
      let most = only_mono (eqb i j) (only (ltb s (final 0 got)) n) n (only_at_most (ltb s (final 0 got)) n) in
      ⊎_elim
      (λ (o : Open c y p). inl (record { ahead = o.ahead; there = omega (arith, o.there); early = o.early; behind = omega (arith, o.behind) }))
      (λ (o : Closed c y p).
      let not-due = only_no (leb (final 0 got) s) n (lt-leb (final 0 got) s (omega (arith, o.past, f.stamp.0))) in
      inr (record {
        past = o.past;
        soon = omega (arith, o.soon);
        level = omega (arith, o.level);
        close = all_map o.close (λ b h e. omega (arith, h e));
      }))
      st

  accept_new : Open c (accepting c i n tag y) it
  unfolding low got it
  accept_new =
      let t = final 0 got in
      let ws = y.machine.sender.waiting in
      let at-later = total_insert (λ q. q.stamp) (λ p. only (eqb p.session i) (only (ltb t p.stamp) p.size)) it ws in
      let none_yet = none_later i t ws (all_map g.sane.waits (λ p k e. omega (arith, below p k (sym e), f.stamp.0))) in
      record {
        ahead = omega (arith, f.stamp.0);
        there = omega (arith, total_insert_all (λ q. only (eqb q t) 1) got y.machine.round.owed, f.there);
        early = omega arith;
        behind = grind (arith, nat_tests);
      }

  pub accept_good : Good c (accepting c i n tag y)
  unfolding low got it
  accept_good =
      let s = y.machine.sender in
      let r = y.machine.round in
      let t = final 0 got in
      let long = max y.longest n in
      let i_in' : i < length r.next = omega (arith, g.many) in
      let staged : Unsent (Stage c (accepting c i n tag y)) s
      = unsent_zip g.sane g.stage accept_stage in
      let Quick : Packet → ℕ → Type 0 = λ p x. All (λ (b : Served). b.slot ≡ p.stamp → x < b.at + long) y.served in
      let quicker : (p : Packet) (x : ℕ) → All (λ (b : Served). b.slot ≡ p.stamp → x < b.at + y.longest) y.served → Quick p x
      = λ p x k. all_map k (λ b h e. omega (arith, h e)) in
      record {
        shown = add_shown c.weights i n r weights i-in g.many n-some g.shown;
        many = length-set r.next i (t + 1) ∙ g.many;
        work =
            let more-owed = length_insert_all got r.owed in
            let more-waiting = total_insert (λ p. p.stamp) (λ p. p.size) it s.waiting in
            omega (arith, g.work, f.count);
        past = g.past;
        under_way = g.under_way;
        order = rising_insert (λ p. p.stamp) it s.waiting
            (all_map g.sane.waits (λ p k. known_apart c.weights i n low got f r.next (omega arith) t p.stamp f.stamp k.known))
            g.order;
        first = on_zip g.sane.on g.first (λ p k h.
            all_insert (λ q. q.stamp) it s.waiting (λ (e : i ≡ p.session). omega (arith, below p k e, f.stamp.0)) h);
        sane = unsent_insert it s
            (record {
              some = n-some;
              short = omega arith;
              mine = f.stamp.1;
              known = known_new c.weights i n low got f r.next i_in' t (omega arith) f.stamp.1;
            })
            (unsent_map g.sane (λ p k. record {
              some = k.some;
              short = omega (arith, k.short);
              mine = k.mine;
              known = known_more c.weights i n low got f r.next (omega arith) i_in' p.stamp k.known;
            }));
        small = omega (arith, g.small);
        gone = all_map g.gone (λ x h. (h.0, omega (arith, h.1)));
        backlog = accept_backlog;
        stage = unsent_insert it s (inl accept_new) staged;
        prompt = record {
          gone = all_map g.prompt.gone (λ x h. quicker x.packet x.left h);
          unsent = unsent_insert it s (all_map g.past (λ b l e. absurd (omega (arith, f.stamp.0))))
              (unsent_map g.prompt.unsent (λ p h. quicker p y.machine.clock h));
        };
        timely = record { gone = g.timely.gone; unsent = unsent_insert it s (omega arith) g.timely.unsent };
      }
