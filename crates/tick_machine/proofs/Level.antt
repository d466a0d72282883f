-- The round server is never a whole packet ahead of the line, at any session. Assumes nothing.
use Rattle.std.proofs.Common.{◌≡◌, ℕ, ◌+◌, ◌-◌, ◌<◌, ◌≤◌, eqb, ◌⊎◌, List, [], ◌∷◌, sym, refl, ap, inl, inr, ⊎_elim, arith, Some, None}
use Rattle.std.proofs.lemmas.Bool.Decides.{nat_tests}
use Rattle.std.proofs.lemmas.Bool.{cases_eq, ne_eqb}
use Rattle.tick_machine.specs.Lists.{All, more, Rising}
use Rattle.tick_machine.specs.Slots.{owner}
use Rattle.tick_machine.specs.Sender.{Packet, Line}
use Rattle.tick_machine.specs.Machine.{Config}
use Rattle.tick_machine.specs.Story.{Story}
use Rattle.tick_machine.specs.Law.{On, Level}
use Rattle.tick_machine.specs.Books.{line_bytes, line_rest, UnderWay}
use Rattle.tick_machine.proofs.Lists.{all_map, all_zip, only_no, only_at_most}
use Rattle.tick_machine.proofs.Known.{times}
use Rattle.tick_machine.proofs.Work.{line, due, pending, live}
use Rattle.tick_machine.proofs.Serving.{own, own_above}
use Rattle.tick_machine.proofs.Figures.{Told, bytes_of}
use Rattle.tick_machine.proofs.Good.{First, later, Sane, Open, Closed, Stage, Good, sizes_some}

-- the slots of session i above s, and s itself if it is owed
own_split : (ws : List ℕ) (i s : ℕ) → owner ws s ≡ i → (os : List ℕ) → own_above ws i s os + times s os ≤ own ws i os
own_split ws i s e [] = omega arith
own_split ws i s e (q ∷ qs) = let ih = own_split ws i s e qs in grind (arith, nat_tests)

-- if all of a session that waits has stamps above s, all of it is later
later_all : (i s : ℕ) (ws : List Packet) → All (λ q. q.session ≡ i → s < q.stamp) ws → bytes_of i ws ≡ later i s ws
later_all i s [] h = refl
later_all i s (q ∷ ws) (more h t) = let ih = later_all i s ws t in grind (arith, nat_tests)

-- the first waiting packet of session i: the others are later
first_of : (P : Packet → Type 0) (i : ℕ) (ws : List Packet) → Rising (λ p. p.stamp) ws → All P ws
    → (bytes_of i ws ≡ 0) ⊎ ((p : Packet) × P p × (p.session ≡ i) × (bytes_of i ws ≤ p.size + later i p.stamp ws))
first_of P i [] r h = inl refl
first_of P i (x ∷ ws) r (more h t) =
    ⊎_elim
    (λ (e : x.session ≡ i). let a = later_all i x.stamp ws (all_map r.0 (λ q l e. l)) in inr (x, h, e, grind (arith, nat_tests)))
    (λ (d : x.session ≡ i → ⊥).
    ⊎_elim
    (λ (z : bytes_of i ws ≡ 0). inl (grind (arith, nat_tests)))
    (λ (y : (p : Packet) × P p × (p.session ≡ i) × (bytes_of i ws ≤ p.size + later i p.stamp ws)).
    let most = y.3 in inr (y.0, y.1, y.2, grind (arith, nat_tests)))
    (first_of P i ws r.1 t))
    (cases_eq x.session i)

module _ (c : Config) (y : Story) (g : Good c y) (i : ℕ) where
  -- the session has nothing on the line, or what is unsent of it is less than Lmax more than what it is owed
  line_level : (l : Line) → line_bytes y.machine.sender.line ≡ line_bytes l → On (First y.machine.sender.waiting) l
      → On (Sane c y.machine.round.next y.longest) l → On (Stage c y) l → UnderWay l
      → (line_rest i l ≡ 0) ⊎ (line_rest i l + bytes_of i y.machine.sender.waiting ≤ own c.weights i y.machine.round.owed + (y.longest - 1))
  line_level None e a k st b = inl refl
  line_level (Some on_it) e a k st b =
      ⊎_elim
      (λ (j : on_it.packet.session ≡ i).
      let ws = y.machine.sender.waiting in
      let os = y.machine.round.owed in
      let most = only_at_most (eqb on_it.packet.session i) on_it.rest in
      let all = later_all on_it.packet.session on_it.packet.stamp ws (line a) in
      let same : bytes_of i ws ≡ bytes_of on_it.packet.session ws = ap (λ x. bytes_of x ws) (sym j) in
      let same' : own c.weights i os ≡ own c.weights on_it.packet.session os = ap (λ x. own c.weights x os) (sym j) in
      inr (⊎_elim
      (λ (o : Open c y on_it.packet). omega (arith, o.behind, own_split c.weights on_it.packet.session on_it.packet.stamp (line k).mine os, (line k).short))
      (λ (o : Closed c y on_it.packet). omega (arith, o.level))
      (line st)))
      (λ (d : on_it.packet.session ≡ i → ⊥). inl (only_no (eqb on_it.packet.session i) on_it.rest (ne_eqb on_it.packet.session i d)))
      (cases_eq on_it.packet.session i)

  waiting_level : bytes_of i y.machine.sender.waiting ≤ own c.weights i y.machine.round.owed + (y.longest - 1)
  waiting_level =
      let s = y.machine.sender in
      let ws = s.waiting in
      let os = y.machine.round.owed in
      let Whole : Packet → Type 0 = λ p. (1 ≤ pending p.stamp s.line ws) × (p.size ≤ due p.stamp ws) in
      let Both : Packet → Type 0 = λ p. Sane c y.machine.round.next y.longest p × Stage c y p in
      let Three : Packet → Type 0 = λ p. Both p × Whole p in
      let l = live s.line ws g.under_way (sizes_some g) in
      let three : All Three ws
      = all_zip (all_zip g.sane.waits g.stage.waits (λ p x z. (x, z))) l.1 (λ p x z. (x, z)) in
      ⊎_elim
      (λ (z : bytes_of i ws ≡ 0). omega arith)
      (λ (z : (p : Packet) × Three p × (p.session ≡ i) × (bytes_of i ws ≤ p.size + later i p.stamp ws)).
      let p = z.0 in
      let k = z.1.0.0 in
      let same : later i p.stamp ws ≡ later p.session p.stamp ws = ap (λ x. later x p.stamp ws) (sym z.2) in
      let same' : own c.weights i os ≡ own c.weights p.session os = ap (λ x. own c.weights x os) (sym z.2) in
      ⊎_elim
      (λ (o : Open c y p). omega (arith, z.3, o.behind, o.there, own_split c.weights p.session p.stamp k.mine os, k.short))
      (λ (o : Closed c y p). omega (arith, z.3, o.level, z.1.1.1))
      z.1.0.1)
      (first_of Three i ws g.order three)

-- what was accepted is served or owed, and sent or unsent: so the lead of the round server is what is unsent beyond what is owed
pub stays_level : (c : Config) (y : Story) → Good c y → Told c y → Level c y
stays_level c y g f pos i =
    let l = y.machine.sender.line in
    let w = waiting_level c y g i in
    omega (arith, f.served_or_owed i, f.sent_or_unsent i, line_level c y g i l refl g.first g.sane.on g.stage.on g.under_way)
