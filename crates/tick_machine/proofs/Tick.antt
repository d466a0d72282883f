-- A tick keeps what the law's induction keeps. Assumes nothing.
use Rattle.std.proofs.Common.{◌≡◌, ℕ, ◌+◌, ◌-◌, ◌<◌, ◌≤◌, eqb, leb, List, [], ◌∷◌, length, sym, ap, ◌∙◌, subst, inl, inr, ⊎_elim, arith, Some, None}
use Rattle.tick_machine.specs.Lists.{only, All, Rising}
use Rattle.tick_machine.specs.Slots.{owner}
use Rattle.tick_machine.specs.Round.{serve}
use Rattle.tick_machine.specs.Sender.{Packet, Line, send}
use Rattle.tick_machine.specs.Machine.{Config}
use Rattle.tick_machine.specs.Story.{Served, Story, ticking}
use Rattle.tick_machine.specs.Law.{On, idle, Unsent}
use Rattle.tick_machine.proofs.Lists.{all_map, all_zip, only_at_most}
use Rattle.tick_machine.proofs.OwedSlots.{tick_shown}
use Rattle.tick_machine.proofs.Work.{line, onward_on, pending_of, unsent_map, unsent_zip, send_pending, send_work, send_unsent, send_gone, send_waiting, send_under_way, live}
use Rattle.tick_machine.proofs.Serving.{serve_total, serve_length, serve_served, serve_cursor, serve_past, serve_next, Still, Done, serve_open}
use Rattle.tick_machine.proofs.Good.{First, later, Backlog, Sane, Stage, Good, tidy, sizes, sizes_some}

send_later : (i s clock : ℕ) (l : Line) (ws : List Packet) → later i s (send clock l ws).waiting ≤ later i s ws
send_later i s clock l ws = send_waiting (λ vs. later i s vs ≤ later i s ws) clock l ws (omega arith) (λ p vs h. omega arith)

-- the packet that the line takes has the least stamp
send_first : (clock : ℕ) (l : Line) (ws : List Packet) → Rising (λ p. p.stamp) ws → On (First ws) l → On (First (send clock l ws).waiting) (send clock l ws).line
send_first clock None [] r h = idle
send_first clock None (p ∷ ws) r h = onward_on p clock (p.size - 1) (all_map r.0 (λ q l e. l))
send_first clock (Some b) ws r h = onward_on b.packet b.started (b.rest - 1) (line h)

module _ (c : Config) (y : Story) (g : Good c y) where
  tick_backlog : Backlog (ticking c y)
  tick_backlog x =
      let s = y.machine.sender in
      let served = serve_total (λ q. only (leb q x) 1) (λ q. only_at_most (leb q x) 1) y.machine.round.owed y.machine.round in
      let worked = send_pending x y.longest y.machine.clock s.line s.waiting g.under_way g.order (sizes g) in
      let before = g.backlog x in
      omega (arith, worked)

  -- what is pending for an unsent packet falls
  Falls : Packet → Type 0
  Falls p = (1 ≤ y.longest) × (1 ≤ pending_of p.stamp y.machine.sender) × (pending_of p.stamp (ticking c y).machine.sender + 1 ≤ pending_of p.stamp y.machine.sender)

  falls : Unsent Falls y.machine.sender
  unfolding Falls
  falls =
      let s = y.machine.sender in
      let l = live s.line s.waiting g.under_way (sizes_some g) in
      unsent_zip (record { on = l.0; waits = all_map l.1 (λ p h. h.0) }) g.sane (λ p h k.
      let worked = send_pending p.stamp y.longest y.machine.clock s.line s.waiting g.under_way g.order (sizes g) in
      (omega (arith, k.some, k.short), h, omega (arith, worked)))

  tick_stage : (p : Packet) → Falls p → Stage c y p → Stage c (ticking c y) p
  unfolding Falls
  tick_stage p f (inl o) =
      let i = p.session in
      let s = p.stamp in
      let r = y.machine.round in
      let now = y.machine.clock in
      let fewer = send_later i s y.machine.clock y.machine.sender.line y.machine.sender.waiting in
      ⊎_elim
      (λ (e : Still c.weights i s r.cursor r.owed (serve r.owed r)).
      inl (record { ahead = e.ahead; there = e.there; early = omega (arith, o.early, e.nearer, e.ahead); behind = omega (arith, o.behind, e.kept) }))
      (λ (e : Done c.weights i s r.owed (serve r.owed r)).
      let after-tick = tick_backlog s in
      inr (record {
        past = e.past;
        soon = omega (arith, e.clear, o.early, g.small);
        level = omega (arith, e.clear, e.kept, o.behind);
        close = serve_served (now + 1) r.owed (tidy g).ahead
            (all_map g.past (λ b l e. absurd (omega (arith, o.ahead))))
            (λ q l e'. omega (arith, e.clear));
      }))
      (serve_open c.weights i s r.owed r (tidy g).rising (tidy g).ahead o.there)
  tick_stage p f (inr o) =
      let i = p.session in
      let s = p.stamp in
      let r = y.machine.round in
      let now = y.machine.clock in
      let fewer = send_later i s y.machine.clock y.machine.sender.line y.machine.sender.waiting in
      inr (record {
        past = omega (arith, o.past, serve_cursor r.owed r (tidy g).ahead);
        soon = omega (arith, o.soon, f.2);
        level = omega (arith, o.level, f.2, serve_total (λ q. only (eqb (owner c.weights q) i) 1) (λ q. only_at_most (eqb (owner c.weights q) i) 1) r.owed r);
        close = serve_served (now + 1) r.owed (tidy g).ahead
            (all_map o.close (λ b h e. omega (arith, h e, f.2)))
            (λ q l e. absurd (omega (arith, o.past)));
      })

  -- at the next clock, an unsent packet is still in time
  InTime : Packet → Type 0
  InTime p = (y.machine.clock + 1 ≤ p.latest) × All (λ (b : Served). b.slot ≡ p.stamp → y.machine.clock + 1 < b.at + y.longest) (ticking c y).served

  in_time : (p : Packet) → Falls p → Stage c y p → InTime p
  unfolding Falls InTime
  in_time p f (inl o) = (
    omega (arith, o.early, g.small, f.0),
    serve_served (y.machine.clock + 1) y.machine.round.owed (tidy g).ahead
        (all_map g.past (λ b l e. absurd (omega (arith, o.ahead))))
        (λ q l e. omega (arith, f.0)),
  )
  in_time p f (inr o) = (
    omega (arith, o.soon, f.1),
    serve_served (y.machine.clock + 1) y.machine.round.owed (tidy g).ahead
        (all_map o.close (λ b h e. omega (arith, h e, f.1, f.0)))
        (λ q l e. omega (arith, f.0)),
  )

  pub tick_good : Good c (ticking c y)
  unfolding Falls InTime
  tick_good =
      let s = y.machine.sender in
      let now = y.machine.clock in
      let staged : Unsent (Stage c (ticking c y)) s
      = unsent_zip falls g.stage tick_stage in
      let timed : Unsent InTime s
      = unsent_zip falls g.stage in_time in
      let Quick : Packet → ℕ → Type 0 = λ p t. All (λ (b : Served). b.slot ≡ p.stamp → t < b.at + y.longest) (ticking c y).served in
      let Due : Packet → ℕ → Type 0 = λ p t. t ≤ p.latest in
      let Old : Packet → ℕ → Type 0 = λ p t. (t ≤ now + 1) × (1 ≤ y.longest) in
      let quick : Unsent (λ p. Quick p (now + 1)) s = unsent_map timed (λ p h. h.1) in
      let due' : Unsent (λ p. Due p (now + 1)) s = unsent_map timed (λ p h. h.0) in
      let old : Unsent (λ p. Old p (now + 1)) s = unsent_map falls (λ p h. (omega arith, h.0)) in
      record {
        shown = tick_shown c.weights y.machine.round g.shown;
        many = ap length (sym (serve_next y.machine.round.owed y.machine.round)) ∙ g.many;
        work = serve_length y.machine.round.owed y.machine.round ∙ ap (λ k. k - 1) g.work ∙ sym (send_work now s.line s.waiting g.under_way (sizes_some g));
        past = serve_past (now + 1) y.machine.round.owed y.machine.round y.served (tidy g).ahead g.past;
        under_way = send_under_way now s.line s.waiting g.under_way (sizes_some g);
        order = send_waiting (Rising (λ p. p.stamp)) now s.line s.waiting g.order (λ p vs h. h.1);
        first = send_first now s.line s.waiting g.order g.first;
        sane = subst (λ next. Unsent (Sane c next y.longest) (ticking c y).machine.sender) (serve_next y.machine.round.owed y.machine.round)
            (send_unsent now s g.sane);
        small = g.small;
        gone = send_gone Old now s y.gone old
            (all_map g.gone (λ x h. (omega arith, h.1)));
        backlog = tick_backlog;
        stage = send_unsent now s staged;
        prompt = record {
          gone = send_gone Quick now s y.gone quick
              (all_zip g.gone g.prompt.gone (λ x h k. serve_served (now + 1) y.machine.round.owed (tidy g).ahead k (λ q l e. omega arith)));
          unsent = send_unsent now s quick;
        };
        timely = record {
          gone = send_gone Due now s y.gone due' g.timely.gone;
          unsent = send_unsent now s due';
        };
      }
