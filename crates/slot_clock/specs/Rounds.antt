-- V and the nexts stand for a round server, and the bytes owed are counts of slots. Assumes nothing.
use Rattle.std.specs.Prelude.{◌≡◌, ℕ, zero, suc, ◌+◌, ◌-◌, ◌<◌, ◌≤◌, min, max, Bool, true, false, cond, ltb, List, [], ◌∷◌, map, length, ◌==◌, nat_eq, nat_lt, slice_index, slice_index_or, refl}
use Rattle.std.proofs.Common.{sym, ap, ◌∙◌, ⊎_elim, arith}
use Rattle.std.proofs.lemmas.Bool.{cases_Bool, cases_lt, cases_eq, cond-true, cond-false, lt-ltb, le-ltb, eqb-true, eq-eqb, ne_eqb}
use Rattle.tick_machine.specs.Lists.{total, only, count, insert_all, All}
use Rattle.tick_machine.specs.Slots.{round_length, owner, lowest}
use Rattle.tick_machine.specs.Round.{Round, serve, round_tick, round_ticks, owed_to, granted, add}
use Rattle.tick_machine.specs.Owed.{from, kept, greatest, owed_slots, shown_round}
use Rattle.tick_machine.proofs.Lists.{only_yes, only_no, only_at_most, total_insert_all}
use Rattle.tick_machine.proofs.Slots.{fresh}
use Rattle.tick_machine.proofs.Windows.{owner_there}
use Rattle.tick_machine.proofs.Serving.{serve_length}
use Rattle.tick_machine.proofs.OwedSlots.{shown_serve}
use Rattle.slot_clock.specs.State.{owed_each}
use Rattle.slot_clock.specs.Walk.{below, due, tick_cursor, ticks_cursor}
use Rattle.slot_clock.specs.Counts.{count_rises}
use Rattle.slot_clock.specs.Walks.{greatest_above}

-- the cursor after the first of the kept is served
head_served : (test : ℕ → Bool) (k v d : ℕ) (ns : List ℕ) → test (v + k) ≡ false
    → (serve (kept test (from v k)) (record { cursor = d; owed = kept test (from v k); next = ns })).cursor ≡ cond (test (lowest test k v)) (suc (lowest test k v)) d
head_served test zero v d ns e =
    let z : v ≡ v + 0 = omega arith in
    sym (cond-false (test v) (suc v) d (ap test z ∙ e))
head_served test (suc k) v d ns e =
    ⊎_elim
    (λ (t : test v ≡ true).
    let a : kept test (from v (suc k)) ≡ v ∷ kept test (from (suc v) k) = cond-true (test v) _ _ t in
    let b : lowest test (suc k) v ≡ v = cond-true (test v) _ _ t in
    ap (λ os. (serve os (record { cursor = d; owed = os; next = ns })).cursor) a ∙ omega arith
    ∙ sym (ap (λ q. cond (test q) (suc q) d) b ∙ cond-true (test v) (suc v) d t))
    (λ (t : test v ≡ false).
    let a : kept test (from v (suc k)) ≡ kept test (from (suc v) k) = cond-false (test v) _ _ t in
    let b : lowest test (suc k) v ≡ lowest test k (suc v) = cond-false (test v) _ _ t in
    let z : suc v + k ≡ v + suc k = omega arith in
    ap (λ os. (serve os (record { cursor = d; owed = os; next = ns })).cursor) a
    ∙ head_served test k (suc v) d ns (ap test z ∙ e)
    ∙ sym (ap (λ q. cond (test q) (suc q) d) b))
    (cases_Bool (test v))

pub tick_shown_cursor : (ws : List ℕ) (v : ℕ) (next : List ℕ) → round_tick (shown_round ws v next) ≡ shown_round ws (tick_cursor ws next v) next
tick_shown_cursor ws v next =
    let test : ℕ → Bool = due ws next in
    let k = greatest next - v in
    let end : test (v + k) ≡ false
    = le-ltb (v + k) (slice_index next (owner ws (v + k))) (omega (arith, greatest_above next (owner ws (v + k)))) in
    shown_serve ws v next ∙ ap (λ x. shown_round ws x next) (head_served test k v v next end)

ticks_first : (k : ℕ) (r : Round) → round_ticks (suc k) r ≡ round_ticks k (round_tick r)
ticks_first zero r = refl
ticks_first (suc k) r = ap round_tick (ticks_first k r)

-- k ticks move the cursor alone
pub ticks_shown : (ws : List ℕ) (k v : ℕ) (next : List ℕ) → round_ticks k (shown_round ws v next) ≡ shown_round ws (ticks_cursor ws next k v) next
ticks_shown ws zero v next = refl
ticks_shown ws (suc k) v next = ticks_first k (shown_round ws v next) ∙ ap (round_ticks k) (tick_shown_cursor ws v next) ∙ ticks_shown ws k (tick_cursor ws next v) next

-- each tick serves one slot, as long as one is owed
pub ticks_length : (k : ℕ) (r : Round) → length (round_ticks k r).owed ≡ length r.owed - k
ticks_length zero r = omega arith
ticks_length (suc k) r = let s = round_ticks k r in omega (arith, serve_length s.owed s, ticks_length k r)

pub owed_falls : (ws : List ℕ) (k v : ℕ) (next : List ℕ) → length (owed_slots ws (ticks_cursor ws next k v) next) ≡ length (owed_slots ws v next) - k
owed_falls ws k v next = sym (ap (λ (r : Round). length r.owed) (ticks_shown ws k v next)) ∙ ticks_length k (shown_round ws v next)

-- a packet adds as many owed slots as it has bytes
total_ones : (os : List ℕ) → total (λ _. 1) os ≡ length os
total_ones [] = refl
total_ones (o ∷ os) = omega (arith, total_ones os)

pub add_length : (ws : List ℕ) (i n : ℕ) (r : Round) → All (λ w. 1 ≤ w) ws → i < length ws → 1 ≤ n → length (add ws i n r).owed ≡ length r.owed + n
add_length ws i n r h l p =
    let got = granted ws i n r in
    let f = fresh ws i n (max r.cursor (slice_index r.next i)) h l p in
    omega (arith, total_ones (insert_all got r.owed), total_ones got, total_ones r.owed, total_insert_all (λ _. 1) got r.owed, f.count)

-- the bytes of each session
total_map : (f : ℕ → ℕ) (xs : List ℕ) → total (λ b. b) (map f xs) ≡ total f xs
total_map f [] = refl
total_map f (x ∷ xs) = ap (λ y. f x + y) (total_map f xs)

total_none : (xs : List ℕ) → total (λ _. 0) xs ≡ 0
total_none [] = refl
total_none (x ∷ xs) = omega (arith, total_none xs)

total_plus : (f g : ℕ → ℕ) (xs : List ℕ) → total (λ x. f x + g x) xs ≡ total f xs + total g xs
total_plus f g [] = refl
total_plus f g (x ∷ xs) = omega (arith, total_plus f g xs)

past_none : (o a k : ℕ) → o < a → total (λ i. only (o == i) 1) (from a k) ≡ 0
past_none o a zero l = refl
past_none o a (suc k) l = omega (arith, only_no (o == a) 1 (ne_eqb o a (λ e. omega arith)), past_none o (suc a) k (omega arith))

there_once : (o a k : ℕ) → a ≤ o → o < a + k → total (λ i. only (o == i) 1) (from a k) ≡ 1
there_once o a zero l u = absurd (omega arith)
there_once o a (suc k) l u =
    ⊎_elim
    (λ (e : o ≡ a). omega (arith, only_yes (o == a) 1 (eq-eqb o a e), past_none o (suc a) k (omega arith)))
    (λ (d : o ≡ a → ⊥). omega (arith, only_no (o == a) 1 (ne_eqb o a d), there_once o (suc a) k (omega (arith, d)) (omega arith)))
    (cases_eq o a)

-- each owed slot is one session's, so the sessions' bytes are as many as the owed slots
pub owed_sum : (ws : List ℕ) (r : Round) → 0 < round_length ws → total (λ b. b) (owed_each ws r) ≡ length r.owed
owed_sum ws r some = total_map (λ i. owed_to ws i r) (from 0 (length ws)) ∙ go r.owed
  where
    go : (os : List ℕ) → total (λ i. total (λ q. only (owner ws q == i) 1) os) (from 0 (length ws)) ≡ length os
    go [] = total_none (from 0 (length ws))
    go (q ∷ qs) =
        let o = owner ws q in
        omega (
          arith,
          total_plus (λ i. only (o == i) 1) (λ i. total (λ q. only (owner ws q == i) 1) qs) (from 0 (length ws)),
          there_once o 0 (length ws) (omega arith) (omega (arith, owner_there ws q some)),
          go qs,
        )

map_from : (f : ℕ → ℕ) (k a i : ℕ) → i < k → slice_index (map f (from a k)) i ≡ f (a + i)
map_from f zero a i l = absurd (omega arith)
map_from f (suc k) a zero l = ap f (let e : a ≡ a + 0 = omega arith in e)
map_from f (suc k) a (suc i) l = map_from f k (suc a) i (omega arith) ∙ ap f (let e : suc a + i ≡ a + suc i = omega arith in e)

pub owed_at : (ws : List ℕ) (r : Round) (i : ℕ) → i < length ws → slice_index (owed_each ws r) i ≡ owed_to ws i r
owed_at ws r i l = map_from (λ i. owed_to ws i r) (length ws) 0 i l ∙ ap (λ i. owed_to ws i r) (let e : 0 + i ≡ i = omega arith in e)

-- of the numbers from v on, k of them, those that pass both tests
module _ (test mine : ℕ → Bool) (n : ℕ) (same : (q : ℕ) → mine q ≡ true → test q ≡ nat_lt q n) where
  suc_plus : (v k : ℕ) → suc v + k ≡ v + suc k
  suc_plus v k = omega arith

  skip : (v k : ℕ) → mine v ≡ false → total (λ q. only (mine q) 1) (kept test (from v (suc k))) ≡ total (λ q. only (mine q) 1) (kept test (from (suc v) k))
  skip v k m =
      let f : ℕ → ℕ = λ q. only (mine q) 1 in
      let rest = kept test (from (suc v) k) in
      ⊎_elim
      (λ (t : test v ≡ true). omega (arith, ap (total f) (cond-true (test v) (v ∷ rest) rest t), only_no (mine v) 1 m))
      (λ (t : test v ≡ false). ap (total f) (cond-false (test v) (v ∷ rest) rest t))
      (cases_Bool (test v))

  kept_count : (k v : ℕ) → total (λ q. only (mine q) 1) (kept test (from v k)) + count mine (min v n) ≡ count mine (min (v + k) n)
  kept_count zero v = let z : v + 0 ≡ v = omega arith in omega (arith, ap (λ x. count mine (min x n)) z)
  kept_count (suc k) v =
      let f : ℕ → ℕ = λ q. only (mine q) 1 in
      let ih = kept_count k (suc v) in
      let z = ap (λ x. count mine (min x n)) (suc_plus v k) in
      ⊎_elim
      (λ (l : v < n).
      let a : min v n ≡ v = omega arith in
      let b : min (suc v) n ≡ suc v = omega arith in
      let a' = ap (count mine) a in
      let b' = ap (count mine) b in
      ⊎_elim
      (λ (m : mine v ≡ true).
      let t : test v ≡ true = same v m ∙ lt-ltb v n l in
      omega (arith, ih, z, a', b', ap (total f) (cond-true (test v) (v ∷ kept test (from (suc v) k)) (kept test (from (suc v) k)) t)))
      (λ (m : mine v ≡ false). omega (arith, ih, z, a', b', only_no (mine v) 1 m, skip v k m))
      (cases_Bool (mine v)))
      (λ (l : n ≤ v).
      let a : min v n ≡ min (suc v) n = omega arith in
      let a' = ap (count mine) a in
      ⊎_elim
      (λ (m : mine v ≡ true).
      let t : test v ≡ false = same v m ∙ le-ltb v n l in
      omega (arith, ih, z, a', ap (total f) (cond-false (test v) (v ∷ kept test (from (suc v) k)) (kept test (from (suc v) k)) t)))
      (λ (m : mine v ≡ false). omega (arith, ih, z, a', skip v k m))
      (cases_Bool (mine v)))
      (cases_lt v n)

-- the bytes owed to a session are its slots from V on below its next
pub owed_below : (ws : List ℕ) (v : ℕ) (next : List ℕ) (i : ℕ) → owed_to ws i (shown_round ws v next) ≡ below ws i (slice_index next i) - below ws i v
owed_below ws v next i =
    let n = slice_index_or next i 0 in
    let mine : ℕ → Bool = λ q. nat_eq (owner ws q) i in
    let k = greatest next - v in
    let h = kept_count (due ws next) mine n (λ q m. ap (λ j. ltb q (slice_index next j)) (eqb-true (owner ws q) i m)) k v in
    let top : n ≤ greatest next = greatest_above next i in
    ⊎_elim
    (λ (l : v < n).
    let a : min v n ≡ v = omega arith in
    let b : min (v + k) n ≡ n = omega arith in
    omega (arith, h, ap (count mine) a, ap (count mine) b))
    (λ (l : n ≤ v).
    let a : min v n ≡ n = omega arith in
    let b : min (v + k) n ≡ n = omega arith in
    omega (arith, h, ap (count mine) a, ap (count mine) b, count_rises mine n v l))
    (cases_lt v n)

-- a session is owed no more than all are
pub owed_most : (ws : List ℕ) (i : ℕ) (r : Round) → owed_to ws i r ≤ length r.owed
owed_most ws i r = go r.owed
  where
    go : (os : List ℕ) → total (λ q. only (owner ws q == i) 1) os ≤ length os
    go [] = omega arith
    go (q ∷ qs) = omega (arith, only_at_most (owner ws q == i) 1, go qs)
