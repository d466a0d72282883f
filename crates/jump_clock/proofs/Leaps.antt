-- A jump: up to the slot in which the first session runs dry, the owed slots are those of the busy sessions. Assumes nothing.
use Rattle.std.proofs.Common.{◌≡◌, ℕ, suc, ◌+◌, ◌-◌, ◌*◌, ◌%◌, ◌^◌, ◌<◌, ◌≤◌, Bool, true, eqb, ltb, List, length, get_or, sym, ap, ◌∙◌, ⊎_elim, mod-lt, mod-eq_of_lt, mul-le-mul, arith}
use Rattle.std.proofs.lemmas.Bool.{lt-ltb, le-ltb, cases_lt, eqb-true}
use Rattle.tick_machine.specs.Lists.{count, final, All}
use Rattle.tick_machine.specs.Slots.{round_length, holder, owner, own_slots}
use Rattle.tick_machine.proofs.Windows.{owner_there, weight_some, first_round}
use Rattle.slot_clock.specs.Layout.{counted}
use Rattle.slot_clock.specs.Walk.{below, due, ticks_cursor}
use Rattle.slot_clock.specs.Counts.{count_rises, count_pass, count_above, count_agree, count_from, count_below}
use Rattle.slot_clock.specs.Reaches.{stamp_one}
use Rattle.slot_clock.specs.Walks.{reached, ticks_more, still, greatest_most}
use Rattle.jump_clock.specs.Jumps.{Ahead}

-- no session is busy
pub none_busy : (ws next : List ℕ) (left v : ℕ) → ((j : ℕ) → j < length next → get_or next j 0 ≤ v) → ticks_cursor ws next left v ≡ v
none_busy ws next left v h = still ws next left v (greatest_most next v h)

-- the busy sessions
abbrev pub busy : ℕ → List ℕ → ℕ → Bool
busy v next j = ltb v (get_or next j 0)

module _ (ws next : List ℕ) (n v at : ℕ) (a : Ahead ws next n v at) where
  abbrev b : ℕ → Bool
  b = counted ws (busy v next)

  abbrev end : ℕ
  end = get_or next at 0

  positive : 0 < round_length ws
  positive = omega (arith, a.whole, a.some)

  there : (q : ℕ) → owner ws q < length next
  there q = omega (arith, owner_there ws q positive, a.same)

  agree : (q : ℕ) → v ≤ q → q < end → due ws next q ≡ b q
  agree q l u =
      let m = get_or next (owner ws q) 0 in
      ⊎_elim
      (λ (k : v < m). lt-ltb q m (omega (arith, a.first (owner ws q) (there q) k)) ∙ sym (lt-ltb v m k))
      (λ (k : m ≤ v). le-ltb q m (omega arith) ∙ sym (le-ltb v m k))
      (cases_lt v m)

  counts : (x : ℕ) → v ≤ x → x ≤ end → count (due ws next) x + count b v ≡ count b x + count (due ws next) v
  counts x l u = count_agree (due ws next) b v x l (λ q k m. agree q k (omega arith))

  end_due : due ws next (end - 1) ≡ true
  end_due =
      let ahead = a.busy in
      let o : owner ws (end - 1) ≡ at = a.tops at a.known (omega arith) in
      lt-ltb (end - 1) (get_or next (owner ws (end - 1)) 0) (omega (arith, ap (λ x. get_or next x 0) o))

  -- a round has a slot of a busy session
  pub busy_hit : 0 < count b n
  busy_hit =
      let s = end - 1 in
      let ahead = a.busy in
      let e : b s ≡ true = sym (agree s (omega arith) (omega arith)) ∙ end_due in
      let m = round_length ws in
      let low : s % m < m = mod-lt s positive in
      let hit : b (s % m) ≡ true = ap (λ x. busy v next (holder ws x)) (mod-eq_of_lt low) ∙ e in
      omega (arith, count_above b (s % m) m hit low, ap (count b) a.whole)

  pub rises : count b v ≤ count b end
  rises = count_rises b v end (omega (arith, a.busy))

  -- the session runs dry within the ticks
  module _ (c left : ℕ) (e : count b v + c ≡ count b end) (enough : c ≤ left) where
    pub dry_some : 1 ≤ c
    dry_some =
        let s = end - 1 in
        let ahead = a.busy in
        let x : suc s ≡ end = omega arith in
        omega (arith, counts end (omega arith) (omega arith), count_pass (due ws next) s end_due, ap (count (due ws next)) x, count_rises (due ws next) v s (omega arith))

    pub dry_goes : ticks_cursor ws next (left - c) end ≡ ticks_cursor ws next left v
    dry_goes =
        let s = end - 1 in
        let ahead = a.busy in
        let f : ℕ → Bool = due ws next in
        let any = dry_some in
        let x : suc s ≡ end = omega arith in
        let back : suc (c - 1) ≡ c = omega arith in
        let all : c + (left - c) ≡ left = omega arith in
        let k = counts end (omega arith) (omega arith) in
        let p = count_pass f s end_due in
        let p' = ap (count f) x in
        let r : ticks_cursor ws next c v ≡ end
        = ap (λ n. ticks_cursor ws next n v) (sym back) ∙ reached ws next (c - 1) v s (omega arith) end_due (omega arith) ∙ x in
        sym (ap (λ n. ticks_cursor ws next n v) (sym all) ∙ ticks_more ws next c (left - c) v ∙ ap (ticks_cursor ws next (left - c)) r)

  -- the ticks end before
  module _ (left s : ℕ) (any : 1 ≤ left) (fewer : count b v + left < count b end) (mine : b s ≡ true) (rank : count b s ≡ count b v + (left - 1)) where
    pub stop_from : v ≤ s
    stop_from = count_from b v s mine (omega arith)

    pub stop_below : s < end
    stop_below = count_below b s end (omega arith)

    pub stop_goes : s + 1 ≡ ticks_cursor ws next left v
    stop_goes =
        let low = stop_from in
        let high = stop_below in
        let back : left ≡ suc (left - 1) = omega arith in
        let plus : suc s ≡ s + 1 = omega arith in
        let k = counts s low (omega arith) in
        sym (ap (λ n. ticks_cursor ws next n v) back ∙ reached ws next (left - 1) v s low (agree s low high ∙ mine) (omega arith) ∙ plus)

  pub next_near : end ≤ 2 ^ 57
  next_near = a.near

  pub jump_near : (left : ℕ) → 1 ≤ left → left ≤ 17592186044416 → v + ((left - 1) + 1) * n < 2 ^ 63
  jump_near left any few =
      let e : ((left - 1) + 1) ≡ left = omega arith in
      let m = ap (λ x. x * n) e in
      omega (arith, m, mul-le-mul few a.small, a.busy, next_near)

-- a stamp in closed form
pub stamp_done : (ws : List ℕ) (i m q s : ℕ) → All (λ w. 1 ≤ w) ws → i < length ws → 1 ≤ m
    → counted ws (λ j. eqb j i) s ≡ true → below ws i s ≡ below ws i q + (m - 1) → s ≡ final 0 (own_slots ws i m q)
stamp_done ws i m q s each l long mine rank = stamp_one ws each i m q s l long (eqb-true (owner ws s) i mine) rank

-- a session has a slot in each round
pub alone_hit : (ws : List ℕ) (i n : ℕ) → All (λ w. 1 ≤ w) ws → i < length ws → n ≡ round_length ws → 0 < below ws i n
alone_hit ws i n each l e = omega (arith, ap (below ws i) e, first_round ws i l, weight_some ws i each l)
