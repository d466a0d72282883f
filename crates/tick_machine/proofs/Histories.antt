-- What happens at a machine by calls was allowed when it happened. Assumes nothing.
use Rattle.std.proofs.Common.{◌≡◌, ℕ, zero, suc, ◌+◌, ◌-◌, ◌<◌, ◌≤◌, true, cond, eqb, ltb, leb, List, [], ◌∷◌, ◌++◌, length, replicate, Ok, Err, Result, sym, refl, ap, ◌∙◌, subst, arith}
use Rattle.std.proofs.lemmas.Bool.{ltb-true, leb-true}
use Rattle.tick_machine.specs.declared.refusal.LineRefusal.TheVariants.{Full}
use Rattle.tick_machine.specs.declared.refusal.Refusal.{Refusal}
use Rattle.tick_machine.specs.declared.refusal.Refusal.TheVariants.{UnknownSession, Empty, TooLong, NoRoom, TooManyUnsettled, TickPassed, PastTheEnd, OtherLink, NotOut}
use Rattle.tick_machine.specs.declared.call.Call.{Call}
use Rattle.tick_machine.specs.declared.call.Call.TheVariants.{Arrive, MoveTo, Collect, File, Return, AskFigures, AskTotals}
use Rattle.tick_machine.specs.Desk.{among}
use Rattle.tick_machine.specs.Machine.{Config, Machine, ticks}
use Rattle.tick_machine.specs.Life.{last_tick, unsettled, offer, arrival, move, settlement, Event, accepted, ticked, collected, filed, returned, step, steps, if_granted, happens, after, events}
use Rattle.tick_machine.specs.Story.{Story, telling, story}
use Rattle.tick_machine.specs.Law.{InEveryHistory}
use Rattle.tick_machine.specs.Books.{TheStoryTellsTheCalls}
use Rattle.tick_machine.specs.Fit.{Fit}
use Rattle.tick_machine.proofs.Fits.{passed, drafted_fits}

-- an accepted packet was one of a session of the link, of a length that may be, and there was room for it
pub record Admitted (c : Config) (i n : ℕ) (m : Machine) : Type 0 where
  pub session : i < length c.weights
  pub some : 1 ≤ n
  pub short : n ≤ c.largest
  pub room : length m.sender.waiting < c.capacity
  pub few : unsettled m < 1024

-- what may happen at a machine
abbrev pub Allowed : Config → Machine → Event → Type 0
Allowed c m (accepted i n tag) = Admitted c i n m
Allowed c m ticked = m.clock < last_tick
Allowed c m collected = Unit {0}
Allowed c m (filed number) = among number m.desk.out ≡ true
Allowed c m (returned number) = among number m.desk.out ≡ true

-- each event might happen when it did
abbrev pub AllAllowed : Config → List Event → Type 0
AllAllowed c [] = Unit {0}
AllAllowed c (e ∷ es) = Allowed c (story c es).machine e × AllAllowed c es

telling_step : (c : Config) (e : Event) (y : Story) → (telling c e y).machine ≡ step c e y.machine
telling_step c (accepted i n tag) y = refl
telling_step c ticked y = refl
telling_step c collected y = refl
telling_step c (filed number) y = refl
telling_step c (returned number) y = refl

story_steps : (c : Config) (es earlier : List Event) → (story c (es ++ earlier)).machine ≡ steps c es (story c earlier).machine
story_steps c [] earlier = refl
story_steps c (e ∷ es) earlier = telling_step c e (story c (es ++ earlier)) ∙ ap (step c e) (story_steps c es earlier)

-- the machine of the story is the machine of the calls
pub story_tells : TheStoryTellsTheCalls
story_tells c [] = refl
story_tells c (x ∷ xs) = story_steps c (happens c (after c xs) x) (events c xs) ∙ ap (steps c (happens c (after c xs) x)) (story_tells c xs)

-- an arrival that was not refused
pub admitted : (c : Config) (i n : ℕ) (m : Machine) (v : ℕ × ℕ × ℕ) → arrival c i n m ≡ Ok v → Admitted c i n m
admitted c i n m v h =
    let five : Result (ℕ × ℕ × ℕ) Refusal = cond (ltb (unsettled m) 1024) (Ok (offer c i n m)) (Err TooManyUnsettled) in
    let four : Result (ℕ × ℕ × ℕ) Refusal = cond (ltb (length m.sender.waiting) c.capacity) five (Err (NoRoom Full)) in
    let three : Result (ℕ × ℕ × ℕ) Refusal = cond (leb n c.largest) four (Err TooLong) in
    let two : Result (ℕ × ℕ × ℕ) Refusal = cond (ltb 0 n) three (Err Empty) in
    let one = passed (ltb i (length c.weights)) two UnknownSession v h in
    let some = passed (ltb 0 n) three Empty v one.1 in
    let short = passed (leb n c.largest) four TooLong v some.1 in
    let room = passed (ltb (length m.sender.waiting) c.capacity) five (NoRoom Full) v short.1 in
    let few = passed (ltb (unsettled m) 1024) (Ok (offer c i n m)) TooManyUnsettled v room.1 in
    record {
      session = ltb-true i (length c.weights) one.0;
      some = ltb-true 0 n some.0;
      short = leb-true n c.largest short.0;
      room = ltb-true (length m.sender.waiting) c.capacity room.0;
      few = ltb-true (unsettled m) 1024 few.0;
    }

-- a settlement that was not refused
pub settled_out : (c : Config) (link number : ℕ) (m : Machine) (v : ℕ) → settlement c link number m ≡ Ok v → among number m.desk.out ≡ true
settled_out c link number m v h =
    let one = passed (eqb link c.link) (cond (among number m.desk.out) (Ok number) (Err NotOut)) OtherLink v h in
    (passed (among number m.desk.out) (Ok number) NotOut v one.1).0

-- a move that was not refused
pub moved_within : (c : Config) (t : ℕ) (m : Machine) (v : ℕ) → move c t m ≡ Ok v → (m.clock ≤ t) × (t ≤ last_tick)
moved_within c t m v h =
    let k = length (ticks c (t - m.clock) m).desk.left - length m.desk.left in
    let one = passed (leb m.clock t) (cond (leb t last_tick) (Ok k) (Err PastTheEnd)) TickPassed v h in
    let two = passed (leb t last_tick) (Ok k) PastTheEnd v one.1 in
    (leb-true m.clock t one.0, leb-true t last_tick two.0)

ticked_clock : (c : Config) (k : ℕ) (es : List Event) → (story c (replicate k ticked ++ es)).machine.clock ≡ (story c es).machine.clock + k
ticked_clock c zero es = omega arith
ticked_clock c (suc k) es = omega (arith, ticked_clock c k es)

ticks_allowed : (c : Config) (k : ℕ) (es : List Event) → (story c es).machine.clock + k ≤ last_tick → AllAllowed c es → AllAllowed c (replicate k ticked ++ es)
ticks_allowed c zero es l h = h
ticks_allowed c (suc k) es l h =
    let clock = ticked_clock c k es in
    (omega arith, ticks_allowed c k es (omega arith) h)

call_allowed : (c : Config) (x : Call) (es : List Event) → AllAllowed c es → AllAllowed c (happens c (story c es).machine x ++ es)
call_allowed c (Arrive i n tag) es h = go (arrival c i n (story c es).machine) refl
  where
    go : (r : Result (ℕ × ℕ × ℕ) Refusal) → arrival c i n (story c es).machine ≡ r → AllAllowed c (if_granted r (accepted i n tag ∷ []) ++ es)
    go (Ok v) e = (admitted c i n (story c es).machine v e, h)
    go (Err v) e = h
call_allowed c (MoveTo t) es h = go (move c t (story c es).machine) refl
  where
    go : (r : Result ℕ Refusal) → move c t (story c es).machine ≡ r → AllAllowed c (if_granted r (replicate (t - (story c es).machine.clock) ticked) ++ es)
    go (Ok v) e =
        let w = moved_within c t (story c es).machine v e in
        ticks_allowed c (t - (story c es).machine.clock) es (omega (arith, w.0, w.1)) h
    go (Err v) e = h
call_allowed c Collect es h = (tt, h)
call_allowed c (File link number) es h = go (settlement c link number (story c es).machine) refl
  where
    go : (r : Result ℕ Refusal) → settlement c link number (story c es).machine ≡ r → AllAllowed c (if_granted r (filed number ∷ []) ++ es)
    go (Ok v) e = (settled_out c link number (story c es).machine v e, h)
    go (Err v) e = h
call_allowed c (Return link number) es h = go (settlement c link number (story c es).machine) refl
  where
    go : (r : Result ℕ Refusal) → settlement c link number (story c es).machine ≡ r → AllAllowed c (if_granted r (returned number ∷ []) ++ es)
    go (Ok v) e = (settled_out c link number (story c es).machine v e, h)
    go (Err v) e = h
call_allowed c (AskFigures i) es h = h
call_allowed c AskTotals es h = h

pub events_allowed : (c : Config) (calls : List Call) → AllAllowed c (events c calls)
events_allowed c [] = tt
events_allowed c (x ∷ xs) =
    subst (λ m. AllAllowed c (happens c m x ++ events c xs)) (story_tells c xs) (call_allowed c x (events c xs) (events_allowed c xs))

earlier_allowed : (c : Config) (later earlier : List Event) → AllAllowed c (later ++ earlier) → AllAllowed c earlier
earlier_allowed c [] earlier h = h
earlier_allowed c (e ∷ es) earlier h = earlier_allowed c es earlier h.1

-- what holds after any allowed events holds at every moment of every history
pub in_every_history : (P : Config → Story → Type 0) → ((c : Config) → Fit c → (es : List Event) → AllAllowed c es → P c (story c es)) → InEveryHistory P
in_every_history P f c d calls later earlier e =
    f c (drafted_fits c d) earlier (earlier_allowed c later earlier (subst (AllAllowed c) (sym e) (events_allowed c calls)))
