use Rattle.std.proofs.Common.{◌≡◌, ℕ, ◌+◌, ◌-◌, ◌*◌, ◌<◌, Bool, true, eqb, sym, ap, subst, rules, arith}
use Rattle.slot_clock.specs.Held.{weights_of}
use Rattle.slot_clock.specs.Walk.{below}
use Rattle.slot_clock.specs.Layout.{counted}
use Rattle.slot_clock.specs.Holding.{sound, held_from}
use Rattle.jump_clock.proofs.Leaps.{stamp_done, alone_hit}
use Rattle.jump_clock.proofs.jumping.jump_stamp.Goals as goal

pub slot_from-requires-clause-hit : goal.slot_from-requires-clause-hit
slot_from-requires-clause-hit c =
    let h = c.args.held.now in
    let hit = alone_hit (weights_of h) c.args.session h.layout.slots (sound h).each c.requires.known h.layout.whole in
    (λ j. eqb j c.args.session, λ j r p. search rules, subst (λ ws. 0 < below ws c.args.session h.layout.slots) (sym c.weights.ensures) hit)

pub slot_from-requires-clause-near : goal.slot_from-requires-clause-near
slot_from-requires-clause-near c =
    let h = c.args.held.now in
    let size : (c.args.size - 1) + 1 ≡ c.args.size = let long = c.requires.long in omega arith in
    omega (arith, held_from h c.args.session c.args.size c.args.from c.requires, ap (λ x. x * h.layout.slots) size)

pub returns : goal.returns
returns c =
    let h = c.args.held.now in
    let i = c.args.session in
    let s = c.slot_from.result in
    let own : ℕ → Bool = λ j. eqb j i in
    let mine = subst (λ ws. counted ws own s ≡ true) c.weights.ensures (c.slot_from.ensures.counts own (λ j r p. search rules)) in
    let rank = subst (λ ws. below ws i s ≡ below ws i c.args.from + (c.args.size - 1)) c.weights.ensures (c.slot_from.ensures.rank own (λ j r p. search rules)) in
    stamp_done (weights_of h) i c.args.size c.args.from s (sound h).each c.requires.known c.requires.long mine rank
