-- What the calls of a slot clock answer, and what they leave. Checks run in the order written. Assumes nothing.
use Rattle.std.specs.Prelude.{ℕ, ◌+◌, Bool, true, cond, ◌&&◌, List, [], ◌∷◌, length, Ok, Err, Result, nat_le, nat_lt, slice_index}
use Rattle.slot_clock.specs.declared.refusal.ClockRefusal.{ClockRefusal}
use Rattle.slot_clock.specs.declared.refusal.ClockRefusal.TheVariants.{Sessions, Weights, UnknownSession, Size, TooMuchOwed, TicksPastEnd}
use Rattle.tick_machine.specs.Lists.{total}
use Rattle.tick_machine.specs.Slots.{round_length}
use Rattle.tick_machine.specs.Round.{fresh_round, stamp, add, round_ticks}
use Rattle.slot_clock.specs.State.{SlotState, state_of, round_of}

-- no weight is 0
abbrev pub no_zero : List ℕ → Bool
no_zero [] = true
no_zero (w ∷ ws) = nat_lt 0 w && no_zero ws

-- making from weights: 1 to 64 of them, none 0, at most 4,096 in all; then all but the weights is 0
abbrev pub made_answer : List ℕ → Result SlotState ClockRefusal
made_answer ws =
    cond (nat_lt 0 (length ws) && nat_le (length ws) 64) (cond (no_zero ws && nat_le (round_length ws) 4096) (Ok (state_of ws 0 (fresh_round ws))) (Err Weights)) (Err Sessions)

-- what a clock that was made means, or the refusal
abbrev pub made_state : {C : Type 0} → (C → SlotState) → Result C ClockRefusal → Result SlotState ClockRefusal
made_state state (Ok c) = Ok (state c)
made_state state (Err e) = Err e

-- how many bytes are owed in all
abbrev pub owed_in_all : SlotState → ℕ
owed_in_all s = total (λ b. b) s.owed

-- adding a packet of n bytes of session i: its stamp
abbrev pub add_answer : SlotState → ℕ → ℕ → Result ℕ ClockRefusal
add_answer s i n =
    cond (nat_lt i (length s.weights)) (cond (nat_lt 0 n && nat_le n 65535) (cond (nat_le (owed_in_all s + n) 67107840) (Ok (stamp s.weights i n (round_of s))) (Err TooMuchOwed)) (Err Size)) (Err UnknownSession)

-- with this answer: the round server accepts the packet, or all stays
abbrev pub add_left : SlotState → ℕ → ℕ → Result ℕ ClockRefusal → SlotState
add_left s i n (Ok stamp) = state_of s.weights s.ticks (add s.weights i n (round_of s))
add_left s i n (Err e) = s

abbrev pub add_after : SlotState → ℕ → ℕ → SlotState
add_after s i n = add_left s i n (add_answer s i n)

-- k more ticks stay within the end of the clock
abbrev pub may_run : SlotState → ℕ → Bool
may_run s k = nat_le (s.ticks + k) 17592186044416

-- running k ticks
abbrev pub run_answer : SlotState → ℕ → Result (Unit {0}) ClockRefusal
run_answer s k = cond (may_run s k) (Ok tt) (Err TicksPastEnd)

-- the round server does k ticks, or all stays
abbrev pub run_after : SlotState → ℕ → SlotState
run_after s k = cond (may_run s k) (state_of s.weights (s.ticks + k) (round_ticks k (round_of s))) s

-- reading a session's owed bytes
abbrev pub owed_answer : SlotState → ℕ → Result ℕ ClockRefusal
owed_answer s i = cond (nat_lt i (length s.weights)) (Ok (slice_index s.owed i)) (Err UnknownSession)
