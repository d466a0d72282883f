-- A slot clock's state is a round server, told by few numbers. Assumes nothing.
use Rattle.std.specs.Prelude.{◌≡◌, ℕ, ◌+◌, ◌<◌, ◌≤◌, List, length, Ok}
use Rattle.tick_machine.specs.Lists.{All}
use Rattle.tick_machine.specs.Round.{Round, fresh_round, add, stamp, round_ticks}
use Rattle.slot_clock.specs.State.{state_of, round_of}
use Rattle.slot_clock.specs.Calls.{add_answer, add_after, run_answer, run_after}

-- the round servers that accepted packets and ticks lead to
pub data Led (ws : List ℕ) : Round → Type 0 where
  start : Led ws (fresh_round ws)
  ticks : {r : Round} (k : ℕ) → Led ws r → Led ws (round_ticks k r)
  packet : {r : Round} (i n : ℕ) → i < length ws → 1 ≤ n → Led ws r → Led ws (add ws i n r)

-- the state of such a round server tells it whole
abbrev pub StateTellsTheRound : Type 0
StateTellsTheRound = (ws : List ℕ) → All (λ w. 1 ≤ w) ws → (r : Round) → Led ws r → (t : ℕ) → round_of (state_of ws t r) ≡ r

-- a packet that the clock accepts is one that the round server accepts, with its stamp
abbrev pub AddingIsAccepting : Type 0
AddingIsAccepting =
    (ws : List ℕ) → All (λ w. 1 ≤ w) ws → (r : Round) → Led ws r → (t i n s : ℕ) → add_answer (state_of ws t r) i n ≡ Ok s
    → (s ≡ stamp ws i n r) × (add_after (state_of ws t r) i n ≡ state_of ws t (add ws i n r))

-- ticks that the clock runs are the round server's ticks
abbrev pub RunningIsTicking : Type 0
RunningIsTicking =
    (ws : List ℕ) → All (λ w. 1 ≤ w) ws → (r : Round) → Led ws r → (t k : ℕ) → run_answer (state_of ws t r) k ≡ Ok tt
    → run_after (state_of ws t r) k ≡ state_of ws (t + k) (round_ticks k r)
