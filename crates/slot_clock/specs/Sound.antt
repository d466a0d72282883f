-- What the numbers of a slot clock keep to, and that adding and running keep it. Assumes nothing.
use Rattle.std.specs.Prelude.{◌≡◌, ℕ, ◌+◌, ◌-◌, ◌*◌, ◌^◌, ◌<◌, ◌≤◌, max, true, List, [], ◌∷◌, length, nat_lt, slice_index, slice_index_or, slice_set, refl}
use Rattle.std.proofs.Common.{sym, ap, subst, ◌∙◌, ⊎_elim, arith, mul-le-mul, length-set, get_or-set_same, get_or-set_other}
use Rattle.std.proofs.lemmas.Bool.{cases_lt, cases_eq, ltb-true, and_parts}
use Rattle.std.proofs.lemmas.List.{get_or_past}
use Rattle.tick_machine.specs.Lists.{final, All, none, more}
use Rattle.tick_machine.specs.Slots.{round_length, owner, own_slots}
use Rattle.tick_machine.specs.Round.{Round, add, stamp}
use Rattle.tick_machine.specs.Owed.{owed_slots, shown_round}
use Rattle.tick_machine.proofs.OwedSlots.{shown_add}
use Rattle.slot_clock.specs.Calls.{no_zero}
use Rattle.slot_clock.specs.Walk.{below, ticks_cursor, Tops}
use Rattle.slot_clock.specs.Rounds.{owed_falls, owed_below, owed_most, add_length}
use Rattle.slot_clock.specs.Reaches.{Stamped, stamped, ticks_near, next_near}

pub record Sound (ws next : List ℕ) (n v ticks owed : ℕ) : Type 0 where
  pub whole : n ≡ round_length ws
  pub some : 0 < n
  pub small : n ≤ 4096
  pub each : All (λ w. 1 ≤ w) ws
  pub same : length next ≡ length ws
  pub tops : Tops ws next
  pub paced : v ≤ ticks * n
  pub few : ticks ≤ 17592186044416
  pub sum : owed ≡ length (owed_slots ws v next)
  pub inside : owed ≤ 67107840

pub each_heavy : (ws : List ℕ) → no_zero ws ≡ true → All (λ w. 1 ≤ w) ws
each_heavy [] e = none
each_heavy (w ∷ ws) e = let p = and_parts (nat_lt 0 w) (no_zero ws) e in more (ltb-true 0 w p.0) (each_heavy ws p.1)

module _ (ws next : List ℕ) (n v ticks owed : ℕ) (h : Sound ws next n v ticks owed) where
  positive : 0 < round_length ws
  positive = omega (arith, h.whole, h.some)

  -- V is at most 2^56
  pub early : v ≤ 17592186044416 * 4096
  early = omega (arith, h.paced, mul-le-mul h.few h.small)

  -- a session's next with n more bytes of its own
  next_room : (i m : ℕ) → i < length ws → owed + m ≤ 67107840 → max v (slice_index next i) + m * n ≤ 17592186044416 * 4096 + 67107840 * 4096
  next_room i m l r =
      let b = below ws i (slice_index next i) - below ws i v in
      let most : b + m ≤ 67107840 = omega (arith, owed_below ws v next i, owed_most ws i (shown_round ws v next), h.sum) in
      let e : b * n ≡ b * round_length ws = ap (λ x. b * x) h.whole in
      let d : (b + m) * n ≡ b * n + m * n = omega arith in
      omega (arith, next_near ws h.each next h.tops v i b (omega (arith, h.same)) l refl, mul-le-mul most h.small, e, d, early)

  -- a session's next is at most 2^57
  pub near : (i : ℕ) → slice_index next i ≤ 2 ^ 57
  near i =
      ⊎_elim (λ (k : i < length ws). omega (arith, next_room i 0 k (omega (arith, h.inside))))
      (λ (k : length ws ≤ i). omega (arith, get_or_past next i 0 (omega (arith, h.same)))) (cases_lt i (length ws))

  -- a packet of m bytes of session i
  module _ (i m q : ℕ) (known : i < length ws) (long : 1 ≤ m) (room : owed + m ≤ 67107840) (start : q ≡ max v (slice_index next i)) where
    pub from_near : q + m * n < 2 ^ 62
    from_near = omega (arith, next_room i m known room)

    module _ (s : ℕ) (is : s ≡ final 0 (own_slots ws i m q)) where
      pub stamp_own : Stamped ws i m q s
      stamp_own = subst (Stamped ws i m q) (sym is) (stamped ws h.each i m q known long)

      pub stamp_near : s < 2 ^ 62
      stamp_near = let e : m * n ≡ m * round_length ws = ap (λ x. m * x) h.whole in omega (arith, stamp_own.near, from_near, e)

      pub stamp_is : s ≡ stamp ws i m (shown_round ws v next)
      stamp_is = is ∙ ap (λ x. final 0 (own_slots ws i m x)) start

      -- the round server accepts it by raising the session's next
      pub added : add ws i m (shown_round ws v next) ≡ shown_round ws v (slice_set next i (s + 1))
      added = shown_add ws i m v next h.each known h.same long ∙ ap (λ x. shown_round ws v (slice_set next i (x + 1))) (sym stamp_is)

      pub sound_added : Sound ws (slice_set next i (s + 1)) n v ticks (owed + m)
      sound_added = record {
        whole = h.whole;
        some = h.some;
        small = h.small;
        each = h.each;
        same = length-set next i (s + 1) ∙ h.same;
        tops = λ j l z.
            ⊎_elim
            (λ (e : j ≡ i).
            let a : slice_index_or (slice_set next i (s + 1)) j 0 ≡ s + 1 = ap (λ x. slice_index (slice_set next i (s + 1)) x) e ∙ get_or-set_same next i (s + 1) 0 (omega (arith, h.same)) in
            let b : slice_index_or (slice_set next i (s + 1)) j 0 - 1 ≡ s = omega arith in
            ap (owner ws) b ∙ stamp_own.own ∙ sym e)
            (λ (d : j ≡ i → ⊥).
            let a : slice_index_or (slice_set next i (s + 1)) j 0 ≡ slice_index_or next j 0 = get_or-set_other next i j (s + 1) 0 d in
            ap (λ x. owner ws (x - 1)) a ∙ h.tops j (omega (arith, length-set next i (s + 1))) (omega arith))
            (cases_eq j i);
        paced = h.paced;
        few = h.few;
        sum = omega (arith, h.sum, add_length ws i m (shown_round ws v next) h.each known long, ap (λ (r : Round). length r.owed) added);
        inside = room;
      }

  -- k ticks pass
  module _ (k to : ℕ) (time : ticks + k ≤ 17592186044416) (there : to ≡ ticks_cursor ws next k v) where
    pub sound_passed : Sound ws next n to (ticks + k) (owed - k)
    sound_passed =
        let e : k * n ≡ k * round_length ws = ap (λ x. k * x) h.whole in
        record {
          whole = h.whole;
          some = h.some;
          small = h.small;
          each = h.each;
          same = h.same;
          tops = h.tops;
          paced = let d : (ticks + k) * n ≡ ticks * n + k * n = omega arith in omega (arith, (ticks_near ws h.each next k v positive).1, h.paced, e, there, d);
          few = time;
          sum = omega (arith, h.sum, owed_falls ws k v next, ap (λ x. length (owed_slots ws x next)) there);
          inside = omega (arith, h.inside);
        }
