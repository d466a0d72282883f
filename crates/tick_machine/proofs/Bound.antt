-- A session's owed bytes are its slots from V to its next: this bounds latest ticks, nexts and the cursor. Assumes nothing.
use Rattle.std.proofs.Common.{◌≡◌, ℕ, zero, suc, ◌+◌, ◌-◌, ◌*◌, ◌<◌, ◌≤◌, max, Bool, eqb, leb, List, [], ◌∷◌, length, get_or, sym, refl, ap, subst, ⊎_elim, mod-lt, arith, get_or-set_same}
use native.Mathlib.Nat.{div-add-mod}
use Rattle.std.proofs.lemmas.Bool.Decides.{nat_tests}
use Rattle.std.proofs.lemmas.Bool.{cases_lt, eq-eqb, eqb-true}
use Rattle.tick_machine.specs.Lists.{total, only, count, All, Rising}
use Rattle.tick_machine.specs.Slots.{round_length, owner}
use Rattle.tick_machine.specs.Round.{Round, granted, stamp, add, round_tick, serve}
use Rattle.tick_machine.specs.Machine.{Config, packet, accept}
use Rattle.tick_machine.specs.Story.{Story, accepting}
use Rattle.tick_machine.specs.Law.{quotient_up, Bounded}
use Rattle.tick_machine.proofs.Lists.{head, only_yes}
use Rattle.tick_machine.proofs.Counts.{count_mono}
use Rattle.tick_machine.proofs.Windows.{weight_some, owner_there, rounds, reach}
use Rattle.tick_machine.proofs.Slots.{Fresh}
use Rattle.tick_machine.proofs.Known.{times, Known}
use Rattle.tick_machine.proofs.OwedSlots.{There, least_there, Tidy}
use Rattle.tick_machine.proofs.Serving.{own}
use Rattle.tick_machine.proofs.Good.{Good, tidy}

-- how many owed slots of session i are not below a
abbrev above : List ℕ → ℕ → ℕ → List ℕ → ℕ
above ws i a os = total (λ q. only (eqb (owner ws q) i) (only (leb a q) 1)) os

above_step : (ws : List ℕ) (i a : ℕ) (os : List ℕ) → above ws i (suc a) os + only (eqb (owner ws a) i) (times a os) ≤ above ws i a os
above_step ws i a [] = grind (arith, nat_tests)
above_step ws i a (q ∷ qs) = let ih = above_step ws i a qs in grind (arith, nat_tests)

above_own : (ws : List ℕ) (i a : ℕ) (os : List ℕ) → above ws i a os ≤ own ws i os
above_own ws i a [] = omega arith
above_own ws i a (q ∷ qs) = let ih = above_own ws i a qs in grind (arith, nat_tests)

-- the slots of session i from a on, k of them, if each of session i is owed
above_count : (ws : List ℕ) (i : ℕ) (os : List ℕ) (k a b : ℕ) → a + k ≡ b → ((q : ℕ) → a ≤ q → q < b → owner ws q ≡ i → 1 ≤ times q os)
    → count (λ q. eqb (owner ws q) i) b ≤ count (λ q. eqb (owner ws q) i) a + above ws i a os
above_count ws i os zero a b e h =
    let f : ℕ → Bool = λ q. eqb (owner ws q) i in
    let same : a ≡ b = omega arith in
    omega (arith, ap (count f) same)
above_count ws i os (suc k) a b e h =
    let ih = above_count ws i os k (suc a) b (omega arith) (λ q l u o. h q (omega arith) u o) in
    let step = above_step ws i a os in
    let here : owner ws a ≡ i → 1 ≤ times a os = h a (omega arith) (omega arith) in
    grind (arith, nat_tests)

-- the slots of session i from V to b are owed, if b is not past its next
pub window_owed : (ws : List ℕ) (r : Round) → Tidy ws r → (i b : ℕ) → r.cursor ≤ b → b ≤ get_or r.next i 0
    → count (λ q. eqb (owner ws q) i) b ≤ count (λ q. eqb (owner ws q) i) r.cursor + own ws i r.owed
window_owed ws r t i b l h =
    let v = r.cursor in
    let there : (q : ℕ) → v ≤ q → q < b → owner ws q ≡ i → 1 ≤ times q r.owed
    = λ q m u o. t.full q m (subst (λ x. q < get_or r.next x 0) (sym o) (omega arith)) in
    omega (arith, above_count ws i r.owed (b - v) v b (omega arith) there, above_own ws i v r.owed)

-- the quotient, rounded up, times the divisor is no less
up_enough : (n d : ℕ) → 1 ≤ d → n ≤ quotient_up n d * d
up_enough n d h = omega (arith, div-add-mod (n + (d - 1)) d, mod-lt (n + (d - 1)) h)

-- the stamp of a packet lies fewer rounds past V than its session's owed bytes, its own among them, take
stamp_near : (ws : List ℕ) (i n : ℕ) (r : Round) → All (λ w. 1 ≤ w) ws → i < length ws → i < length r.next → Tidy ws (add ws i n r)
    → Fresh ws i n (max r.cursor (get_or r.next i 0)) (granted ws i n r)
    → stamp ws i n r < r.cursor + quotient_up (own ws i (add ws i n r).owed) (get_or ws i 0) * round_length ws
stamp_near ws i n r h l l' t f =
    let v = r.cursor in
    let s = stamp ws i n r in
    let mine : ℕ → Bool = λ q. eqb (owner ws q) i in
    let φ = get_or ws i 0 in
    let b = own ws i (add ws i n r).owed in
    let k = quotient_up b φ in
    let Φ = round_length ws in
    let next_is = get_or-set_same r.next i (s + 1) 0 l' in
    let low : v ≤ s = omega (arith, f.stamp.0) in
    let all = window_owed ws (add ws i n r) t i (suc s) (omega arith) (omega arith) in
    let last = only_yes (mine s) 1 (eq-eqb (owner ws s) i f.stamp.1) in
    let enough = up_enough b φ (weight_some ws i h l) in
    ⊎_elim
    (λ (near : s < v + k * Φ). near)
    (λ (far : v + k * Φ ≤ s).
    let split : (v + k * Φ) + (s - (v + k * Φ)) ≡ s = omega arith in
    let more : count mine (v + k * Φ) ≤ count mine s
    = subst (λ x. count mine (v + k * Φ) ≤ count mine x) split (count_mono mine (v + k * Φ) (s - (v + k * Φ))) in
    absurd (omega (arith, rounds ws i l v k)))
    (cases_lt s (v + k * Φ))

pub accept_bounded : (c : Config) (y : Story) (i n tag : ℕ) → 1 ≤ c.largest → All (λ w. 1 ≤ w) c.weights → i < length c.weights
    → Fresh c.weights i n (max y.machine.round.cursor (get_or y.machine.round.next i 0)) (granted c.weights i n y.machine.round)
    → Good c y → Good c (accepting c i n tag y)
    → Bounded c (record { packet = packet c i n tag y.machine; at = y.machine.clock; owed = own c.weights i (accept c i n tag y.machine).round.owed })
accept_bounded c y i n tag some h l f g g' =
    let near = stamp_near c.weights i n y.machine.round h l (omega (arith, g.many)) (tidy g') f in
    omega arith

pub own_within : (ws : List ℕ) (i : ℕ) (os : List ℕ) → own ws i os ≤ length os
own_within ws i [] = omega arith
own_within ws i (q ∷ qs) = let ih = own_within ws i qs in grind (arith, nat_tests)

get_d_past : (xs : List ℕ) (i : ℕ) → length xs ≤ i → ◌≡◌ {A = ℕ} (get_or xs i 0) 0
get_d_past [] i h = refl
get_d_past (x ∷ xs) zero h = absurd (omega arith)
get_d_past (x ∷ xs) (suc i) h = get_d_past xs i (omega arith)

-- no next lies more rounds past V than bytes are owed, and one
pub next_near : (ws : List ℕ) (r : Round) → Tidy ws r → All (λ w. 1 ≤ w) ws → length r.next ≡ length ws → (i : ℕ)
    → get_or r.next i 0 ≤ r.cursor + (length r.owed + 1) * round_length ws
next_near ws r t h m i =
    ⊎_elim
    (λ (l : i < length ws).
    let v = r.cursor in
    let k = length r.owed + 1 in
    let Φ = round_length ws in
    ⊎_elim
    (λ (far : v + k * Φ < get_or r.next i 0).
    let all = window_owed ws r t i (v + k * Φ) (omega arith) (omega arith) in
    let most = own_within ws i r.owed in
    let φ = get_or ws i 0 in
    let enough : k ≤ k * φ = mul_some k φ (weight_some ws i h l) in
    absurd (omega (arith, rounds ws i l v k)))
    (λ (near : get_or r.next i 0 ≤ v + k * Φ). near)
    (cases_lt (v + k * Φ) (get_or r.next i 0)))
    (λ (l : length ws ≤ i). omega (arith, get_d_past r.next i (omega arith)))
    (cases_lt i (length ws))
  where
    mul_some : (k φ : ℕ) → 1 ≤ φ → k ≤ k * φ
    mul_some zero φ h = omega arith
    mul_some (suc k) φ h = omega (arith, mul_some k φ h)

-- the slot that a tick serves lies less than a round past V
pub tick_near : (ws : List ℕ) (r : Round) → Tidy ws r → All (λ w. 1 ≤ w) ws → 1 ≤ round_length ws
    → (round_tick r).cursor ≤ r.cursor + round_length ws
tick_near ws r t h some = go r.owed t.rising t.known t.full
  where
    go : (os : List ℕ) → Rising (λ s. s) os → All (Known ws r.next) os → ((q : ℕ) → r.cursor ≤ q → Known ws r.next q → There q os)
        → (serve os r).cursor ≤ r.cursor + round_length ws
    go [] u k full = omega arith
    go (q ∷ qs) u k full =
        let v = r.cursor in
        let i = owner ws q in
        let s = reach ws i v h (owner_there ws q some) in
        let o : owner ws s.0 ≡ i = eqb-true (owner ws s.0) i s.3 in
        ⊎_elim
        (λ (owed : s.0 < get_or r.next i 0).
        omega (arith, s.2, least_there q s.0 qs u (full s.0 s.1 (subst (λ x. s.0 < get_or r.next x 0) (sym o) owed))))
        (λ (past : get_or r.next i 0 ≤ s.0). omega (arith, s.2, head k))
        (cases_lt s.0 (get_or r.next i 0))
