-- What a slot clock's calls answer, by what it holds. Assumes nothing.
use Rattle.std.specs.Prelude.{◌≡◌, ℕ, zero, suc, ◌+◌, ◌-◌, ◌*◌, ◌^◌, ◌<◌, ◌≤◌, true, false, ◌&&◌, ltb, ◌⊎◌, List, [], ◌∷◌, length, take, Ok, Err, nat_le, nat_lt, slice_index, slice_set}
use Rattle.std.proofs.Math.Path.{refl, sym, ap}
use Rattle.std.proofs.Common.{◌∙◌, arith}
use Rattle.std.proofs.Math.Logic.{⊎_elim}
use Rattle.std.proofs.lemmas.Bool.{cond-true, cond-false, lt-ltb, le-ltb, le-leb, lt-leb, and_from, and_left, and_right}
use Rattle.slot_clock.specs.declared.refusal.ClockRefusal.TheVariants.{UnknownSession, Size, TooMuchOwed, TicksPastEnd}
use Rattle.tick_machine.specs.Lists.{final}
use Rattle.tick_machine.specs.Slots.{own_slots}
use Rattle.tick_machine.specs.Round.{stamp}
use Rattle.tick_machine.specs.Owed.{shown_round}
use Rattle.slot_clock.specs.State.{state_of, round_of}
use Rattle.slot_clock.specs.Calls.{owed_in_all, add_answer, add_left, add_after, run_answer, run_after, owed_answer}
use Rattle.slot_clock.specs.Walk.{below, ticks_cursor}
use Rattle.slot_clock.specs.declared.held.Held.{Held}
use Rattle.slot_clock.specs.Held.{weights_of, next_of, held_state, Room}
use Rattle.slot_clock.specs.Rounds.{owed_sum, owed_at, owed_below, ticks_shown}
use Rattle.slot_clock.specs.Sound.{Sound, each_heavy, early, near, from_near, stamp_near, stamp_is, stamp_own, added, sound_added, sound_passed}

pub take_set : {X : Type 0} (n : ℕ) (l : List X) (i : ℕ) (x : X) → take n (slice_set l i x) ≡ slice_set (take n l) i x
take_set zero l i x = refl
take_set (suc n) [] i x = refl
take_set (suc n) (y ∷ l) zero x = refl
take_set (suc n) (y ∷ l) (suc i) x = ap (λ t. y ∷ t) (take_set n l i x)

module _ (h : Held) where
  pub sound : Sound (weights_of h) (next_of h) h.layout.slots h.cursor h.ticks h.owed
  sound = record {
    whole = h.layout.whole;
    some = h.layout.some;
    small = h.small;
    each = each_heavy (weights_of h) h.each;
    same = h.same;
    tops = h.tops;
    paced = h.paced;
    few = h.few;
    sum = h.sum;
    inside = h.inside;
  }

  pub all_owed : owed_in_all (held_state h) ≡ h.owed
  unfolding held_state
  all_owed = owed_sum (weights_of h) (shown_round (weights_of h) h.cursor (next_of h)) (omega (arith, h.layout.whole, h.layout.some)) ∙ sym h.sum

  module _ (i n : ℕ) where
    pub unknown : length (weights_of h) ≤ i → add_answer (held_state h) i n ≡ Err UnknownSession
    unfolding held_state
    unknown l = cond-false (nat_lt i (length (weights_of h))) _ _ (le-ltb i (length (weights_of h)) l)

    module _ (l : i < length (weights_of h)) where
      known : ltb i (length (weights_of h)) ≡ true
      known = lt-ltb i (length (weights_of h)) l

      pub no_size : (n ≡ 0) ⊎ (65535 < n) → add_answer (held_state h) i n ≡ Err Size
      unfolding held_state
      no_size s =
          let f : (nat_lt 0 n && nat_le n 65535) ≡ false
          = ⊎_elim (λ (z : n ≡ 0). and_left (nat_lt 0 n) (nat_le n 65535) (le-ltb 0 n (omega arith))) (λ (z : 65535 < n). and_right (nat_lt 0 n) (nat_le n 65535) (lt-leb n 65535 z)) s in
          cond-true (nat_lt i (length (weights_of h))) _ _ known ∙ cond-false (nat_lt 0 n && nat_le n 65535) _ _ f

      module _ (long : 1 ≤ n) (short : n ≤ 65535) where
        sized : (nat_lt 0 n && nat_le n 65535) ≡ true
        sized = and_from (nat_lt 0 n) (nat_le n 65535) (lt-ltb 0 n long) (le-leb n 65535 short)

        pub too_much : 67107840 < h.owed + n → add_answer (held_state h) i n ≡ Err TooMuchOwed
        unfolding held_state
        too_much u =
            cond-true (nat_lt i (length (weights_of h))) _ _ known ∙ cond-true (nat_lt 0 n && nat_le n 65535) _ _ sized
            ∙ cond-false (nat_le (owed_in_all (held_state h) + n) 67107840) _ _ (lt-leb (owed_in_all (held_state h) + n) 67107840 (omega (arith, all_owed)))

        pub accepted : h.owed + n ≤ 67107840 → add_answer (held_state h) i n ≡ Ok (stamp (weights_of h) i n (shown_round (weights_of h) h.cursor (next_of h)))
        unfolding held_state
        accepted u =
            cond-true (nat_lt i (length (weights_of h))) _ _ known ∙ cond-true (nat_lt 0 n && nat_le n 65535) _ _ sized
            ∙ cond-true (nat_le (owed_in_all (held_state h) + n) 67107840) _ _ (le-leb (owed_in_all (held_state h) + n) 67107840 (omega (arith, all_owed)))

  -- a packet that there is room for
  module _ (i n q : ℕ) (room : Room h i n q) where
    pub held_from : q + n * h.layout.slots < 2 ^ 62
    held_from = from_near (weights_of h) (next_of h) h.layout.slots h.cursor h.ticks h.owed sound i n q room.known room.long room.fits room.start

    module _ (s : ℕ) (is : s ≡ final 0 (own_slots (weights_of h) i n q)) where
      pub held_stamp : s < 2 ^ 62
      held_stamp = stamp_near (weights_of h) (next_of h) h.layout.slots h.cursor h.ticks h.owed sound i n q room.known room.long room.fits room.start s is

      pub held_low : q ≤ s
      held_low = (stamp_own (weights_of h) (next_of h) h.layout.slots h.cursor h.ticks h.owed sound i n q room.known room.long room.fits room.start s is).low

      pub held_added : Sound (weights_of h) (slice_set (next_of h) i (s + 1)) h.layout.slots h.cursor h.ticks (h.owed + n)
      held_added =
          sound_added (weights_of h) (next_of h) h.layout.slots h.cursor h.ticks h.owed sound i n q room.known room.long room.fits room.start s is

      pub held_answer : add_answer (held_state h) i n ≡ Ok s
      held_answer =
          accepted i n room.known room.long room.short room.fits
          ∙ ap (λ x. Ok x) (sym (stamp_is (weights_of h) (next_of h) h.layout.slots h.cursor h.ticks h.owed sound i n q room.known room.long room.fits room.start s is))

      pub held_after : state_of (weights_of h) h.ticks (shown_round (weights_of h) h.cursor (slice_set (next_of h) i (s + 1))) ≡ add_after (held_state h) i n
      unfolding held_state
      held_after =
          ap (state_of (weights_of h) h.ticks) (sym (added (weights_of h) (next_of h) h.layout.slots h.cursor h.ticks h.owed sound i n q room.known room.long room.fits room.start s is))
          ∙ sym (ap (add_left (held_state h) i n) held_answer)

  -- k ticks
  pub past_end : (k : ℕ) → 17592186044416 < h.ticks + k → run_answer (held_state h) k ≡ Err TicksPastEnd
  unfolding held_state
  past_end k u = cond-false (nat_le (h.ticks + k) 17592186044416) _ _ (lt-leb (h.ticks + k) 17592186044416 u)

  pub past_stays : (k : ℕ) → 17592186044416 < h.ticks + k → held_state h ≡ run_after (held_state h) k
  unfolding held_state
  past_stays k u = sym (cond-false (nat_le (h.ticks + k) 17592186044416) _ _ (lt-leb (h.ticks + k) 17592186044416 u))

  module _ (k to : ℕ) (time : h.ticks + k ≤ 17592186044416) (is : to ≡ ticks_cursor (weights_of h) (next_of h) k h.cursor) where
    pub held_passed : Sound (weights_of h) (next_of h) h.layout.slots to (h.ticks + k) (h.owed - k)
    held_passed = sound_passed (weights_of h) (next_of h) h.layout.slots h.cursor h.ticks h.owed sound k to time is

    pub pass_answer : run_answer (held_state h) k ≡ Ok tt
    unfolding held_state
    pass_answer = cond-true (nat_le (h.ticks + k) 17592186044416) _ _ (le-leb (h.ticks + k) 17592186044416 time)

    pub pass_after : state_of (weights_of h) (h.ticks + k) (shown_round (weights_of h) to (next_of h)) ≡ run_after (held_state h) k
    unfolding held_state
    pass_after =
        ap (λ x. state_of (weights_of h) (h.ticks + k) (shown_round (weights_of h) x (next_of h))) is
        ∙ ap (state_of (weights_of h) (h.ticks + k)) (sym (ticks_shown (weights_of h) k h.cursor (next_of h)))
        ∙ sym (cond-true (nat_le (h.ticks + k) 17592186044416) _ _ (le-leb (h.ticks + k) 17592186044416 time))

  -- the bytes of a session
  pub owed_unknown : (i : ℕ) → length (weights_of h) ≤ i → Err UnknownSession ≡ owed_answer (held_state h) i
  unfolding held_state
  owed_unknown i l = sym (cond-false (nat_lt i (length (weights_of h))) _ _ (le-ltb i (length (weights_of h)) l))

  pub owed_known : (i b : ℕ) → i < length (weights_of h) → b ≡ below (weights_of h) i (slice_index (next_of h) i) - below (weights_of h) i h.cursor → Ok b ≡ owed_answer (held_state h) i
  unfolding held_state
  owed_known i b l e =
      let r = shown_round (weights_of h) h.cursor (next_of h) in
      ap (λ x. Ok x) (e ∙ sym (owed_below (weights_of h) h.cursor (next_of h) i) ∙ sym (owed_at (weights_of h) r i l))
      ∙ sym (cond-true (nat_lt i (length (weights_of h))) _ _ (lt-ltb i (length (weights_of h)) l))

  -- the laws
  pub held_served : state_of (held_state h).weights (held_state h).ticks (round_of (held_state h)) ≡ held_state h
  unfolding held_state
  held_served = refl

  pub held_sized : length (held_state h).next ≡ length (held_state h).weights
  unfolding held_state
  held_sized = h.same

  pub held_early : (held_state h).cursor ≤ 2 ^ 56
  unfolding held_state
  held_early = omega (arith, early (weights_of h) (next_of h) h.layout.slots h.cursor h.ticks h.owed sound)

  pub held_near : (i : ℕ) → slice_index (held_state h).next i ≤ 2 ^ 57
  unfolding held_state
  held_near i = near (weights_of h) (next_of h) h.layout.slots h.cursor h.ticks h.owed sound i
