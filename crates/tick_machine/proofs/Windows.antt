-- In any round of slots a session has as many as its weight; so from any slot on it has one within a round. Assumes nothing.
use Rattle.std.proofs.Common.{◌≡◌, ℕ, zero, suc, ◌+◌, ◌*◌, ◌<◌, ◌≤◌, Bool, true, eqb, List, [], ◌∷◌, length, get_or, sym, ap, ◌∙◌, mod-lt, mod-eq_of_lt, suc-add, zero-add, arith}
use native.Mathlib.Nat.{add-mod_right}
use Rattle.tick_machine.specs.Lists.{only, count, All}
use Rattle.tick_machine.specs.Slots.{round_length, holder, owner}
use Rattle.tick_machine.proofs.Lists.{head, tail}
use Rattle.tick_machine.proofs.Counts.{count_same, count_hit}
use Rattle.tick_machine.proofs.Ownership.{position_has_one_owner, session_owns_its_weight}

pub weight_some : (ws : List ℕ) (i : ℕ) → All (λ w. 1 ≤ w) ws → i < length ws → 1 ≤ get_or ws i 0
weight_some [] i h l = absurd (omega arith)
weight_some (w ∷ ws) zero h l = head h
weight_some (w ∷ ws) (suc i) h l = weight_some ws i (tail h) (omega arith)

-- no session has more positions than there are in a round
pub weight_within : (ws : List ℕ) (i : ℕ) → get_or ws i 0 ≤ round_length ws
weight_within [] i = omega arith
weight_within (w ∷ ws) zero = omega arith
weight_within (w ∷ ws) (suc i) = omega (arith, weight_within ws i)

pub round_some : (ws : List ℕ) (i : ℕ) → All (λ w. 1 ≤ w) ws → i < length ws → 1 ≤ round_length ws
round_some ws i h l = omega (arith, weight_some ws i h l, weight_within ws i)

-- the owner of a slot is a session of the link
pub owner_there : (ws : List ℕ) (q : ℕ) → 1 ≤ round_length ws → owner ws q < length ws
owner_there ws q h = position_has_one_owner ws _ (mod-lt q h)

-- a round on, the owners are the same
pub owner_round : (ws : List ℕ) (q : ℕ) → owner ws (q + round_length ws) ≡ owner ws q
owner_round ws q = ap (holder ws) (add-mod_right q (round_length ws))

module _ (ws : List ℕ) (i : ℕ) (l : i < length ws) where
  -- a round from slot 0 on
  pub first_round : count (λ q. eqb (owner ws q) i) (round_length ws) ≡ get_or ws i 0
  first_round =
      count_same (λ q. eqb (owner ws q) i) (λ p. eqb (holder ws p) i) (round_length ws) (λ q k. ap (λ x. eqb (holder ws x) i) (mod-eq_of_lt k))
      ∙ session_owns_its_weight ws i l

  -- a round from any slot on
  pub a_round : (a : ℕ) → count (λ q. eqb (owner ws q) i) (a + round_length ws) ≡ count (λ q. eqb (owner ws q) i) a + get_or ws i 0
  a_round zero = ap (count (λ q. eqb (owner ws q) i)) (zero-add (round_length ws)) ∙ first_round ∙ sym (zero-add (get_or ws i 0))
  a_round (suc a) =
      let f : ℕ → Bool = λ q. eqb (owner ws q) i in
      let n = round_length ws in
      let e : count f (suc a + n) ≡ count f (suc (a + n)) = ap (count f) (suc-add a n) in
      let same : only (f (a + n)) 1 ≡ only (f a) 1 = ap (λ x. only (eqb x i) 1) (owner_round ws a) in
      omega (arith, e, same, a_round a)

  -- k rounds
  pub rounds : (a k : ℕ) → count (λ q. eqb (owner ws q) i) (a + k * round_length ws) ≡ count (λ q. eqb (owner ws q) i) a + k * get_or ws i 0
  rounds a zero =
      let f : ℕ → Bool = λ q. eqb (owner ws q) i in
      let e : a + 0 * round_length ws ≡ a = omega arith in
      omega (arith, ap (count f) e)
  rounds a (suc k) =
      let f : ℕ → Bool = λ q. eqb (owner ws q) i in
      let n = round_length ws in
      let e : a + suc k * n ≡ (a + k * n) + n = omega arith in
      omega (arith, ap (count f) e, a_round (a + k * n), rounds a k)

-- from any slot on, a session has one within a round
pub reach : (ws : List ℕ) (i q : ℕ) → All (λ w. 1 ≤ w) ws → i < length ws
    → (s : ℕ) × (q ≤ s) × (s < q + round_length ws) × (eqb (owner ws s) i ≡ true)
reach ws i q h l = count_hit (λ s. eqb (owner ws s) i) q (round_length ws) (omega (arith, a_round ws i l q, weight_some ws i h l))
