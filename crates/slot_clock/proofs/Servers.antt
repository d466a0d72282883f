-- A slot clock's state is a round server. Assumes nothing.
use Rattle.std.proofs.Common.{◌≡◌, ℕ, zero, suc, ◌+◌, ◌≤◌, Bool, true, false, cond, ◌&&◌, ltb, leb, List, length, Ok, Err, Result, sym, refl, ap, ◌∙◌, arith, length-set}
use lib.ListN.{length-replicate}
use Rattle.std.proofs.lemmas.Bool.{cond-true}
use Rattle.tick_machine.specs.Lists.{All, final}
use Rattle.tick_machine.specs.Round.{Round, granted, stamp, add, round_ticks}
use Rattle.tick_machine.specs.Owed.{shown_round}
use Rattle.tick_machine.proofs.OwedSlots.{shown_fresh, tick_shown, add_shown}
use Rattle.tick_machine.proofs.Serving.{serve_next}
use Rattle.slot_clock.specs.declared.refusal.ClockRefusal.{ClockRefusal}
use Rattle.slot_clock.specs.State.{state_of, round_of}
use Rattle.slot_clock.specs.Calls.{owed_in_all, add_left, may_run}
use Rattle.slot_clock.specs.Theorems.{Led, start, ticks, packet, StateTellsTheRound, AddingIsAccepting, RunningIsTicking}

-- a round server that V and the nexts tell
record Told (ws : List ℕ) (r : Round) : Type 0 where
  pub same : r ≡ shown_round ws r.cursor r.next
  pub sized : length r.next ≡ length ws

told_ticks : (ws : List ℕ) (r : Round) (k : ℕ) → Told ws r → Told ws (round_ticks k r)
told_ticks ws r zero h = h
told_ticks ws r (suc k) h =
    let s = round_ticks k r in
    let ih = told_ticks ws r k h in
    record { same = tick_shown ws s ih.same; sized = sym (ap length (serve_next s.owed s)) ∙ ih.sized }

told : (ws : List ℕ) → All (λ w. 1 ≤ w) ws → (r : Round) → Led ws r → Told ws r
told ws each r start = record { same = shown_fresh ws; sized = length-replicate (length ws) (let z : ℕ = 0 in z) }
told ws each r (ticks {r = s} k l) = told_ticks ws s k (told ws each s l)
told ws each r (packet {r = s} i n known long l) =
    let h = told ws each s l in
    record { same = add_shown ws i n s each known h.sized long h.same; sized = length-set s.next i (final 0 (granted ws i n s) + 1) ∙ h.sized }

pub state_tells_the_round : StateTellsTheRound
state_tells_the_round ws each r l t = sym (told ws each r l).same

-- what is not refused
passes : {X : Type 0} (b : Bool) (x : Result X ClockRefusal) (e : ClockRefusal) (v : X) → cond b x (Err e) ≡ Ok v → x ≡ Ok v
passes true x e v h = h
passes false x e v h = let z : ◌≡◌ {A = ℕ} 0 1 = cc in absurd (omega arith)

passed : {X : Type 0} (b : Bool) (x : Result X ClockRefusal) (e : ClockRefusal) (v : X) → cond b x (Err e) ≡ Ok v → b ≡ true
passed true x e v h = refl
passed false x e v h = let z : ◌≡◌ {A = ℕ} 0 1 = cc in absurd (omega arith)

pub adding_is_accepting : AddingIsAccepting
adding_is_accepting ws each r l t i n s e =
    let st = state_of ws t r in
    let same = state_tells_the_round ws each r l t in
    let a = passes (ltb i (length ws)) _ _ s e in
    let b = passes (ltb 0 n && leb n 65535) _ _ s a in
    let c : Ok (stamp ws i n (round_of st)) ≡ Ok s = passes (leb (owed_in_all st + n) 67107840) _ _ s b in
    let d : stamp ws i n (round_of st) ≡ s = cc in
    (sym d ∙ ap (stamp ws i n) same, ap (add_left st i n) e ∙ ap (λ x. state_of ws t (add ws i n x)) same)

pub running_is_ticking : RunningIsTicking
running_is_ticking ws each r l t k e =
    let st = state_of ws t r in
    cond-true (may_run st k) (state_of ws (t + k) (round_ticks k (round_of st))) st (passed (may_run st k) (Ok tt) _ tt e)
    ∙ ap (λ x. state_of ws (t + k) (round_ticks k x)) (state_tells_the_round ws each r l t)
