-- Slot by slot: what the walks keep. Assumes nothing.
use Rattle.std.proofs.Common.{◌≡◌, ℕ, zero, suc, ◌+◌, ◌-◌, ◌<◌, ◌≤◌, min, Bool, true, false, cond, eqb, List, [], ◌∷◌, length, sym, refl, ap, ◌∙◌, ⊎_elim, arith}
use Rattle.std.specs.Prelude.{◌*◌, Some, slice_get}
use Rattle.std.specs.List.{filter, range_with_len}
use Rattle.std.proofs.lemmas.Bool.{cases_lt, cases_Bool, both_ways, cond-true, cond-false, eq-eqb, ne_eqb}
use Rattle.tick_machine.specs.Lists.{final, All, count}
use Rattle.tick_machine.specs.Slots.{round_length, owner, own_slots}
use Rattle.tick_machine.specs.Round.{Round, serve, round_ticks}
use Rattle.tick_machine.specs.Owed.{from, kept, greatest, owed_slots, shown_round}
use Rattle.slot_clock.specs.Walk.{below, due, ticks_cursor}
use Rattle.slot_clock.specs.Counts.{count_rises, count_pass, count_fail, count_one, count_from, count_below}
use Rattle.slot_clock.specs.Walks.{ticks_more}
use Rattle.slot_clock.specs.Rounds.{ticks_shown, ticks_length, owed_falls}
use Rattle.slot_clock.specs.Reaches.{Stamped, stamped}

-- a server that owes nothing stands still
serve_none : (os : List ℕ) (r : Round) → length os ≡ 0 → (serve os r).cursor ≡ r.cursor
serve_none [] r e = refl
serve_none (o ∷ os) r e = absurd (omega arith)

idle : (d : ℕ) (r : Round) → length r.owed ≡ 0 → (round_ticks d r).cursor ≡ r.cursor
idle zero r e = refl
idle (suc d) r e = let s = round_ticks d r in serve_none s.owed s (omega (arith, ticks_length d r)) ∙ idle d r e

pub cursor_idle : (ws next : List ℕ) (d v : ℕ) → length (owed_slots ws v next) ≡ 0 → ticks_cursor ws next d v ≡ v
cursor_idle ws next d v e = sym (ap (λ (r : Round). r.cursor) (ticks_shown ws d v next)) ∙ idle d (shown_round ws v next) e

-- no more ticks count than bytes are owed
pub cursor_enough : (ws next : List ℕ) (k n v : ℕ) → n ≡ length (owed_slots ws v next) → ticks_cursor ws next (min k n) v ≡ ticks_cursor ws next k v
cursor_enough ws next k n v e =
    ⊎_elim
    (λ (l : k < n). ap (λ x. ticks_cursor ws next x v) (let m : min k n ≡ k = omega arith in m))
    (λ (l : n ≤ k).
    let u = ticks_cursor ws next n v in
    let z : length (owed_slots ws u next) ≡ 0 = omega (arith, owed_falls ws n v next) in
    let sum : n + (k - n) ≡ k = omega arith in
    ap (λ x. ticks_cursor ws next x v) (let m : min k n ≡ n = omega arith in m)
    ∙ sym (sym (ap (λ x. ticks_cursor ws next x v) sum) ∙ ticks_more ws next n (k - n) v ∙ cursor_idle ws next (k - n) u z))
    (cases_lt k n)

-- what is owed lies below the greatest next
pub owed_ahead : (ws next : List ℕ) (v : ℕ) → 0 < length (owed_slots ws v next) → v < greatest next
owed_ahead ws next v h =
    ⊎_elim (λ k. k)
    (λ (k : greatest next ≤ v).
    let z : greatest next - v ≡ 0 = omega arith in
    absurd (omega (arith, ap (λ n. length (kept (due ws next) (from v n))) z)))
    (cases_lt v (greatest next))

module _ (ws next : List ℕ) (v : ℕ) (ahead : v < greatest next) where
  first_slot : owed_slots ws v next ≡ cond (due ws next v) (v ∷ owed_slots ws (suc v) next) (owed_slots ws (suc v) next)
  first_slot = let e : greatest next - v ≡ suc (greatest next - suc v) = omega arith in ap (λ n. kept (due ws next) (from v n)) e

  pub owed_past : due ws next v ≡ true → length (owed_slots ws v next) ≡ length (owed_slots ws (v + 1) next) + 1
  owed_past t =
      let b : v + 1 ≡ suc v = omega arith in
      omega (arith, ap length (first_slot ∙ cond-true (due ws next v) _ _ t), ap (λ x. length (owed_slots ws x next)) b)

  pub owed_same : due ws next v ≡ false → length (owed_slots ws v next) ≡ length (owed_slots ws (v + 1) next)
  owed_same t =
      let b : v + 1 ≡ suc v = omega arith in
      omega (arith, ap length (first_slot ∙ cond-false (due ws next v) _ _ t), ap (λ x. length (owed_slots ws x next)) b)

-- of the slots from a on that pass, the one that has k such before it
kept_here : (f : ℕ → Bool) (a q k : ℕ) (xs : List ℕ) → f a ≡ true → f q ≡ true → count f q ≡ count f a + k
    → ((j : ℕ) → a < q → count f q ≡ count f (a + 1) + j → slice_get xs j ≡ Some q) → slice_get (a ∷ xs) k ≡ Some q
kept_here f a q zero xs t p c later = ap (λ x. Some x) (count_one f a q t p (omega arith))
kept_here f a q (suc k) xs t p c later =
    let past : a < q = ⊎_elim (λ x. x) (λ (x : q ≤ a). absurd (omega (arith, count_rises f q a x))) (cases_lt a q) in
    let b : a + 1 ≡ suc a = omega arith in
    later k past (omega (arith, c, ap (count f) b, count_pass f a t))

kept_nth : (f : ℕ → Bool) (n a k q : ℕ) → a ≤ q → q < a + n → f q ≡ true → count f q ≡ count f a + k → slice_get (filter f (range_with_len a n)) k ≡ Some q
kept_nth f zero a k q l u p c = absurd (omega arith)
kept_nth f (suc n) a k q l u p c =
    let rest = filter f (range_with_len (a + 1) n) in
    let later = λ (j : ℕ) (past : a < q) (d : count f q ≡ count f (a + 1) + j). kept_nth f n (a + 1) j q (omega arith) (omega arith) p d in
    ⊎_elim (λ (t : f a ≡ true). ap (λ xs. slice_get xs k) (cond-true (f a) (a ∷ rest) rest t) ∙ kept_here f a q k rest t p c later)
    (λ (t : f a ≡ false).
    let b : a + 1 ≡ suc a = omega arith in
    let past : a < q
    = ⊎_elim (λ x. x) (λ (x : q ≤ a). let e : q ≡ a = omega arith in absurd (both_ways (f a) t (sym (ap f e) ∙ p))) (cases_lt a q) in
    ap (λ xs. slice_get xs k) (cond-false (f a) (a ∷ rest) rest t) ∙ later k past (omega (arith, c, ap (count f) b, count_fail f a t)))
    (cases_Bool (f a))

-- of a session's slots in so many rounds, the one that has one less than so many before it is the stamp
pub stamp_nth : (ws : List ℕ) → All (λ w. 1 ≤ w) ws → (i n low slots : ℕ) → i < length ws → 1 ≤ n → slots ≡ round_length ws
    → slice_get (filter (λ q. eqb (owner ws q) i) (range_with_len low (n * slots))) (n - 1) ≡ Some (final 0 (own_slots ws i n low))
stamp_nth ws each i n low slots known long e =
    let last = final 0 (own_slots ws i n low) in
    let h : Stamped ws i n low last = stamped ws each i n low known long in
    let m : n * slots ≡ n * round_length ws = ap (λ x. n * x) e in
    kept_nth (λ q. eqb (owner ws q) i) (n * slots) low (n - 1) last h.low (omega (arith, h.near, m)) (eq-eqb (owner ws last) i h.own) (omega (arith, h.rank))

-- the walk to a stamp
module _ (ws : List ℕ) (each : All (λ w. 1 ≤ w) ws) (i n low : ℕ) (known : i < length ws) (long : 1 ≤ n) where
  abbrev mine : ℕ → Bool
  mine = λ q. eqb (owner ws q) i

  abbrev last : ℕ
  last = final 0 (own_slots ws i n low)

  pub last_is : Stamped ws i n low last
  last_is = stamped ws each i n low known long

  last_mine : mine last ≡ true
  last_mine = eq-eqb (owner ws last) i last_is.own

  pub not_past : (q left : ℕ) → below ws i q + left ≡ below ws i low + n → 1 ≤ left → q ≤ last
  not_past q left e l = count_from mine q last last_mine (omega (arith, last_is.rank))

  pub arrived : (q : ℕ) → below ws i q ≡ below ws i low + n → q ≤ last + 1 → q - 1 ≡ last
  arrived q e u = let past = count_below mine last q (omega (arith, last_is.rank)) in omega arith

-- one slot further
pub below_own : (ws : List ℕ) (i q : ℕ) → owner ws q ≡ i → below ws i (q + 1) ≡ below ws i q + 1
below_own ws i q e =
    let b : q + 1 ≡ suc q = omega arith in
    omega (arith, ap (below ws i) b, count_pass (λ q. eqb (owner ws q) i) q (eq-eqb (owner ws q) i e))

pub below_other : (ws : List ℕ) (i q : ℕ) → (owner ws q ≡ i → ⊥) → below ws i (q + 1) ≡ below ws i q
below_other ws i q e =
    let b : q + 1 ≡ suc q = omega arith in
    omega (arith, ap (below ws i) b, count_fail (λ q. eqb (owner ws q) i) q (ne_eqb (owner ws q) i e))
