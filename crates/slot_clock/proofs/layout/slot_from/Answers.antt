use Rattle.std.proofs.Common.{◌≡◌, ℕ, ◌+◌, ◌*◌, ◌/◌, ◌%◌, ◌<◌, Bool, List, refl, ap, arith}
use Rattle.tick_machine.specs.Lists.{count}
use Rattle.tick_machine.specs.Slots.{round_length}
use Rattle.slot_clock.specs.Layout.{counted, whole, part, place}
use Rattle.slot_clock.specs.Blocks.{Reached, whole_count, slot_done}
use Rattle.slot_clock.proofs.layout.slot_from.Goals as goal

-- a round in which `a` positions count, and some slot does
heavy : (ws : List ℕ) (b : ℕ → Bool) (n a : ℕ) → n ≡ round_length ws → 0 < count (counted ws b) n → a ≡ whole b 0 ws → 0 < a
heavy ws b n a e h f = omega (arith, whole_count b ws, ap (count (counted ws b)) e)

module _ (ws : List ℕ) (b : ℕ → Bool) (from t n a r p : ℕ) (e : n ≡ round_length ws) (l : 0 < n) (some : 0 < a) (all : a ≡ whole b 0 ws) (first : r ≡ part b 0 ws (from % n)) (last : p ≡ place b 0 ws ((r + t) % a)) where
  -- the slot, as the code has it
  found : Reached b ws from t ((from / n + (r + t) / a) * n + p)
  found = slot_done b ws from t n a (r + t) p e l all some (ap (λ x. x + t) first) last

  -- it is no slot too far
  fits : from + (t + 1) * n < 9223372036854775808 → (from / n + (r + t) / a) * n + p < 9223372036854775808
  fits k = let m : (t + 1) * n ≡ (t + 1) * round_length ws = ap (λ x. (t + 1) * x) e in omega (arith, found.near, m)

pub nonzero_div-result-2 : goal.nonzero_div-result-2
nonzero_div-result-2 g c =
    let hit = c.requires.hit in
    heavy c.args.weights.now hit.0 c.args.round c.weight_of-all.result c.requires.whole hit.2 (c.weight_of-all.ensures.is hit.0 hit.1)

pub nonzero_rem-u : goal.nonzero_rem-u
nonzero_rem-u g c =
    let hit = c.requires.hit in
    heavy c.args.weights.now hit.0 c.args.round c.weight_of-all.result c.requires.whole hit.2 (c.weight_of-all.ensures.is hit.0 hit.1)

pub overflow_mul-result : goal.overflow_mul-result
overflow_mul-result g c =
    let hit = c.requires.hit in
    let ws = c.args.weights.now in
    let all = c.weight_of-all.ensures.is hit.0 hit.1 in
    let some = heavy ws hit.0 c.args.round c.weight_of-all.result c.requires.whole hit.2 all in
    let far = fits ws hit.0 c.args.from c.args.between c.args.round c.weight_of-all.result c.part_of.result _ c.requires.whole c.requires.some some all (c.part_of.ensures.is hit.0 hit.1) refl c.requires.near in
    omega (arith, far)

pub overflow_add-result-2 : goal.overflow_add-result-2
overflow_add-result-2 g c =
    let hit = c.requires.hit in
    let ws = c.args.weights.now in
    let all = c.weight_of-all.ensures.is hit.0 hit.1 in
    let some = heavy ws hit.0 c.args.round c.weight_of-all.result c.requires.whole hit.2 all in
    let far = fits ws hit.0 c.args.from c.args.between c.args.round c.weight_of-all.result c.part_of.result c.place_of.result
    c.requires.whole c.requires.some some all (c.part_of.ensures.is hit.0 hit.1) (c.place_of.ensures hit.0 hit.1) c.requires.near in
    omega (arith, far)

pub returns : goal.returns
returns g c =
    let hit = c.requires.hit in
    let ws = c.args.weights.now in
    let n = c.args.round in
    let a = c.weight_of-all.result in
    let r = c.part_of.result in
    let p = c.place_of.result in
    let some = heavy ws hit.0 n a c.requires.whole hit.2 (c.weight_of-all.ensures.is hit.0 hit.1) in
    record {
      counts = λ b tells.
          (found ws b c.args.from c.args.between n a r p c.requires.whole c.requires.some some (c.weight_of-all.ensures.is b tells) (c.part_of.ensures.is b tells) (c.place_of.ensures b tells)).counts;
      rank = λ b tells.
          (found ws b c.args.from c.args.between n a r p c.requires.whole c.requires.some some (c.weight_of-all.ensures.is b tells) (c.part_of.ensures.is b tells) (c.place_of.ensures b tells)).rank;
    }
