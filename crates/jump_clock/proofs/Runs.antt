-- What the jumping clock holds, as its calls need it. Assumes nothing.
use Rattle.std.proofs.Common.{◌≡◌, ℕ, ◌+◌, ◌<◌, ◌≤◌, ltb, List, length, get_or, sym, ap, ◌∙◌, subst, ⊎_elim, arith}
use Rattle.std.proofs.lemmas.Bool.{cases_lt}
use Rattle.tick_machine.specs.Lists.{total, only}
use Rattle.slot_clock.specs.declared.held.Held.{Held}
use Rattle.slot_clock.specs.Held.{weights_of, next_of, held_state}
use Rattle.jump_clock.specs.declared.dry.Dry.{Dry}
use Rattle.jump_clock.specs.Ends.{blank, Ordered}
use Rattle.jump_clock.specs.Dries.{Holds, Lost, busy_sessions, missed, halfway}
use Rattle.jump_clock.proofs.Busies.{busy_count, firstly, first_end, holds_less, holds_on, missed_all, missed_none}

-- the heap has as many elements as sessions are busy
pub sessions_busy : (h : Held) (xs : List Dry) (v : ℕ) (next : List ℕ) → h.cursor ≡ v → next_of h ≡ next → Holds xs v next → busy_sessions (held_state h) ≡ length xs
unfolding held_state
sessions_busy h xs v next e f holds =
    ap (λ x. total (λ n. only (ltb x n) 1) (next_of h)) e ∙ ap (λ y. total (λ n. only (ltb v n) 1) y) f ∙ sym (busy_count xs v next holds)

pub halfway_state : (h exit : Held) (v : ℕ) (next : List ℕ) → exit.cursor ≡ v → next_of exit ≡ next
    → halfway (held_state h).cursor (held_state exit).cursor (held_state exit).next ≡ halfway h.cursor v next
unfolding held_state
halfway_state h exit v next e f = ap (λ x. halfway h.cursor x (next_of exit)) e ∙ ap (halfway h.cursor v) f

-- the heap after a jump to `to`
pub record Turned (xs ys : List Dry) (to : ℕ) (next : List ℕ) : Type 0 where
  pub holds : Holds ys to next
  pub turns : length ys + 1 ≡ length xs + missed to next

module _ (h : Held) (xs : List Dry) (v : ℕ) (holds : Holds xs v (next_of h)) (ordered : Ordered xs) (some : 0 < length xs) where
  abbrev first : Dry
  first = get_or xs 0 blank

  -- the first has run dry
  pub dry_missed : (to : ℕ) → to ≡ first.end → missed to (next_of h) ≡ 0
  dry_missed to e =
      missed_none to (next_of h) first.session (firstly h xs v holds ordered some).known (sym (first_end xs v (next_of h) holds some) ∙ sym e)

  pub dry_turned : (ys : List Dry) (to : ℕ) → to ≡ first.end → Lost xs first ys → length ys + 1 ≡ length xs → Turned xs ys to (next_of h)
  dry_turned ys to e lost count = record {
    holds = subst (λ u. Holds ys u (next_of h)) (sym e) (holds_less xs ys v (weights_of h) (next_of h) h.tops holds ordered some lost);
    turns = omega (arith, count, dry_missed to e);
  }

  -- the ticks ended before
  module _ (to : ℕ) (past : v < to) (within : to ≤ get_or (next_of h) first.session 0) (apart : to ≡ first.end → ⊥) where
    pub stop_short : to < get_or (next_of h) first.session 0
    stop_short = omega (arith, first_end xs v (next_of h) holds some, apart)

    pub stop_turned : Turned xs xs to (next_of h)
    stop_turned =
        let next = next_of h in
        let f = firstly h xs v holds ordered some in
        let none : missed to next ≡ 1
        = missed_all to next
        (λ j k e. ⊎_elim (λ (u : v < get_or next j 0). omega (arith, stop_short, f.first j k u)) (λ (u : get_or next j 0 ≤ v). omega arith) (cases_lt v (get_or next j 0))) in
        record {
          holds = holds_on xs v to next (omega arith) (λ j k u. omega (arith, stop_short, f.first j k u)) holds;
          turns = omega (arith, none);
        }
