-- Every drafted configuration keeps the limits. Assumes nothing.
use Rattle.std.proofs.Common.{◌≡◌, ℕ, ◌+◌, ◌≤◌, Bool, true, false, cond, ltb, leb, List, [], ◌∷◌, length, Ok, Err, Result, refl, subst, arith, length-append}
use Rattle.std.proofs.lemmas.Bool.{and_parts, ltb-true, leb-true}
use Rattle.tick_machine.specs.declared.refusal.Refusal.{Refusal}
use Rattle.tick_machine.specs.declared.refusal.Refusal.TheVariants.{LinkNumber, Largest, Capacity, FirstWeight, Weight, TooManySessions, TooMuchWeight}
use Rattle.tick_machine.specs.Lists.{none, more}
use Rattle.tick_machine.specs.Slots.{round_length}
use Rattle.tick_machine.specs.Machine.{Config}
use Rattle.tick_machine.specs.Life.{within, made, adding, with_session, added, drafted}
use Rattle.tick_machine.specs.Fit.{Fit, DraftsKeepTheLimits}
use Rattle.tick_machine.proofs.Lists.{all_push}
use Rattle.tick_machine.proofs.Places.{total_push}

-- a check that was passed, and the rest of the checks
pub passed : {A E : Type 0} (b : Bool) (x : Result A E) (e : E) (v : A) → cond b x (Err e) ≡ Ok v → (b ≡ true) × (x ≡ Ok v)
passed true x e v h = (refl, h)
passed false x e v h = (cc, cc)

within_parts : (n x : ℕ) → within n x ≡ true → (1 ≤ x) × (x ≤ n)
within_parts n x h =
    let p = and_parts (ltb 0 x) (leb x n) h in
    (ltb-true 0 x p.0, leb-true x n p.1)

made_fits : (link largest capacity weight : ℕ) (c : Config) → made link largest capacity weight ≡ Ok c → Fit c
made_fits link largest capacity weight c h =
    let new : Config = record { link = link; largest = largest; capacity = capacity; weights = weight ∷ [] } in
    let at_weight : Result Config Refusal = cond (within 4096 weight) (Ok new) (Err FirstWeight) in
    let at_capacity : Result Config Refusal = cond (within 1024 capacity) at_weight (Err Capacity) in
    let at_largest : Result Config Refusal = cond (within 65535 largest) at_capacity (Err Largest) in
    let one = passed (leb link 65535) at_largest LinkNumber c h in
    let two = passed (within 65535 largest) at_capacity Largest c one.1 in
    let three = passed (within 1024 capacity) at_weight Capacity c two.1 in
    let four = passed (within 4096 weight) (Ok new) FirstWeight c three.1 in
    let ok : Ok new ≡ Ok c = four.1 in
    let is : new ≡ c = cc in
    let l = within_parts 65535 largest two.0 in
    let k = within_parts 1024 capacity three.0 in
    let w = within_parts 4096 weight four.0 in
    subst Fit is (record {
      link = leb-true link 65535 one.0;
      largest_some = l.0;
      largest = l.1;
      capacity_some = k.0;
      capacity = k.1;
      sessions_some = omega arith;
      sessions = omega arith;
      weights = more w.0 none;
      round = omega (arith, w.1);
    })

added_fits : (c : Config) (w : ℕ) → Fit c → Fit (added c w)
added_fits c w f = go (adding c w) refl
  where
    go : (r : Result ℕ Refusal) → adding c w ≡ r → Fit (with_session r w c)
    go (Err e) h = record {
      link = f.link;
      largest_some = f.largest_some;
      largest = f.largest;
      capacity_some = f.capacity_some;
      capacity = f.capacity;
      sessions_some = f.sessions_some;
      sessions = f.sessions;
      weights = f.weights;
      round = f.round;
    }
    go (Ok i) h =
        let fewer = leb (round_length c.weights + w) 4096 in
        let room = ltb (length c.weights) 64 in
        let one = passed (ltb 0 w) (cond room (cond fewer (Ok (length c.weights)) (Err TooMuchWeight)) (Err TooManySessions)) Weight i h in
        let two = passed room (cond fewer (Ok (length c.weights)) (Err TooMuchWeight)) TooManySessions i one.1 in
        let three = passed fewer (Ok (length c.weights)) TooMuchWeight i two.1 in
        let longer = length-append c.weights (w ∷ []) in
        record {
          link = f.link;
          largest_some = f.largest_some;
          largest = f.largest;
          capacity_some = f.capacity_some;
          capacity = f.capacity;
          sessions_some = omega (arith, f.sessions_some);
          sessions = omega (arith, ltb-true (length c.weights) 64 two.0);
          weights = all_push c.weights w f.weights (ltb-true 0 w one.0);
          round = omega (arith, total_push (λ v. v) c.weights w, leb-true (round_length c.weights + w) 4096 three.0);
        }

draft_fits : (c : Config) (addings : List ℕ) → Fit c → Fit (drafted c addings)
draft_fits c [] f = f
draft_fits c (w ∷ ws) f = draft_fits (added c w) ws (added_fits c w f)

pub drafted_fits : DraftsKeepTheLimits
drafted_fits c d = subst Fit d.is (draft_fits d.first d.addings (made_fits d.link d.largest d.capacity d.weight d.first d.making))
