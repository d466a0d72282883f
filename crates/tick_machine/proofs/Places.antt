-- Every accepted packet is in one place, and its number is held once. Assumes nothing.
use Rattle.std.proofs.Common.{◌≡◌, ℕ, zero, suc, ◌+◌, ◌-◌, ◌≤◌, true, false, ◌||◌, eqb, List, [], ◌∷◌, ◌++◌, length, Some, None, Option, sym, refl, ap, ◌∙◌, ⊎_elim, arith, length-append}
use Rattle.std.proofs.lemmas.Bool.{eqb-true, cond-true, cond-false, cases_Bool, false≢true}
use Rattle.tick_machine.specs.Lists.{total}
use Rattle.tick_machine.specs.Sender.{Packet, Departed, Line, onward, leaving, send, sent_off}
use Rattle.tick_machine.specs.Desk.{joined, rest, handed, hand_out, among, without}
use Rattle.tick_machine.specs.Machine.{Config, Machine, packet, accept, tick, with_desk}
use Rattle.tick_machine.specs.Life.{on_line, unsettled}
use Rattle.tick_machine.specs.Books.{over, over_line}
use Rattle.tick_machine.proofs.Lists.{total_insert}

pub total_push : {X : Type 0} (f : X → ℕ) (xs : List X) (x : X) → total f (xs ++ x ∷ []) ≡ total f xs + f x
total_push f [] x = omega arith
total_push f (y ∷ ys) x = omega (arith, total_push f ys x)

pub total_ones : {X : Type 0} (xs : List X) → total (λ (x : X). 1) xs ≡ length xs
total_ones [] = refl
total_ones (x ∷ xs) = omega (arith, total_ones xs)

line_ones : (l : Line) → over_line (λ x. 1) l ≡ on_line l
line_ones None = refl
line_ones (Some b) = refl

-- the unsettled packets, counted
pub unsettled_over : (m : Machine) → over (λ x. 1) m ≡ unsettled m
unsettled_over m =
    omega (arith, total_ones m.sender.waiting, line_ones m.sender.line, total_ones m.desk.left, total_ones m.desk.out)

module _ (f : ℕ → ℕ) where
  onward_over : (t started n : ℕ) (p : Packet) (ds : List Departed)
      → over_line f (onward p started n) + total (λ (d : Departed). f d.packet.number) (joined (leaving t p started n) ds)
      ≡ f p.number + total (λ (d : Departed). f d.packet.number) ds
  onward_over t started zero p ds =
      omega (arith, total_push (λ (d : Departed). f d.packet.number) ds (record { packet = p; started = started; left = t }))
  onward_over t started (suc n) p ds = refl

  send_over : (clock : ℕ) (l : Line) (ws : List Packet) (ds : List Departed)
      → total (λ (p : Packet). f p.number) (send clock l ws).waiting + over_line f (send clock l ws).line
      + total (λ (d : Departed). f d.packet.number) (joined (sent_off clock l ws) ds)
      ≡ total (λ (p : Packet). f p.number) ws + over_line f l + total (λ (d : Departed). f d.packet.number) ds
  send_over clock None [] ds = refl
  send_over clock None (p ∷ ws) ds = omega (arith, onward_over (clock + 1) clock (p.size - 1) p ds)
  send_over clock (Some b) ws ds = omega (arith, onward_over (clock + 1) b.started (b.rest - 1) b.packet ds)

  -- a tick moves packets on, and loses none
  pub tick_over : (c : Config) (m : Machine) → over f (tick c m) ≡ over f m
  tick_over c m = omega (arith, send_over m.clock m.sender.line m.sender.waiting m.desk.left)

  -- an accepted packet joins them
  pub accept_over : (c : Config) (i n tag : ℕ) (m : Machine) → over f (accept c i n tag m) ≡ over f m + f m.count
  accept_over c i n tag m =
      omega (arith, total_insert (λ (p : Packet). p.stamp) (λ (p : Packet). f p.number) (packet c i n tag m) m.sender.waiting)

  hand_over : (ds : List Departed) (out : List ℕ)
      → total (λ (d : Departed). f d.packet.number) (rest ds) + total f (handed ds out) ≡ total (λ (d : Departed). f d.packet.number) ds + total f out
  hand_over [] out = refl
  hand_over (d ∷ ds) out = omega (arith, total_push f out d.packet.number)

  -- a collected packet stays among them
  pub collect_over : (m : Machine) → over f (with_desk hand_out m) ≡ over f m
  collect_over m = omega (arith, hand_over m.desk.left m.desk.out)

  -- a number that is out, settled, is one less
  pub without_total : (k : ℕ) (xs : List ℕ) → among k xs ≡ true → total f (without k xs) + f k ≡ total f xs
  without_total k [] h = absurd (false≢true h)
  without_total k (x ∷ xs) h =
      ⊎_elim
      (λ (e : eqb x k ≡ true).
      let same : f x ≡ f k = ap f (eqb-true x k e) in
      omega (arith, ap (total f) (cond-true (eqb x k) xs (x ∷ without k xs) e)))
      (λ (e : eqb x k ≡ false).
      let there : among k xs ≡ true = sym (ap (λ b. b || among k xs) e) ∙ h in
      omega (arith, ap (total f) (cond-false (eqb x k) xs (x ∷ without k xs) e), without_total k xs there))
      (cases_Bool (eqb x k))

pub without_length : (k : ℕ) (xs : List ℕ) → among k xs ≡ true → length (without k xs) + 1 ≡ length xs
without_length k xs h = omega (arith, without_total (λ x. 1) k xs h, total_ones (without k xs), total_ones xs)

-- at most one packet leaves in a tick
pub joined_length : (o : Option Departed) (ds : List Departed) → length (joined o ds) ≤ length ds + 1
joined_length None ds = omega arith
joined_length (Some d) ds = omega (arith, length-append ds (d ∷ []))

pub handed_length : (ds : List Departed) (out : List ℕ) → length (rest ds) + length (handed ds out) ≡ length ds + length out
handed_length [] out = refl
handed_length (d ∷ ds) out = omega (arith, length-append out (d.packet.number ∷ []))
