use Rattle.std.proofs.Common.{◌≡◌, List, sym, subst, length, set, ap, ◌∙◌, arith, length-set}
use Rattle.arrayvec.proofs.ArrayVecLemmas.{items-with_items}
use Rattle.arrayvec.specs.ArrayVec.{with_items}
use Rattle.heap_order.specs.Heaps.{Heavy}
use Rattle.jump_clock.specs.declared.dry.Dry.{Dry}
use Rattle.jump_clock.specs.Ends.{by_end}
use Rattle.jump_clock.proofs.Heaps.{heavy_later, traded}
use Rattle.jump_clock.proofs.dry.Busy.renew.Goals as goal

pub lower-requires : goal.lower-requires
lower-requires c =
    let b = c.args.self.now in
    let v = b.places in
    let seen = c.deref_mut.ensures.value in
    let size = length-set c.deref_mut.result.now c.args.at c.args.x ∙ ap length seen in
    let is : (with_items v (set c.deref_mut.result.now c.args.at c.args.x)).items ≡ set v.items c.args.at c.args.x
    = items-with_items v (set c.deref_mut.result.now c.args.at c.args.x) size ∙ ap (λ xs. set xs c.args.at c.args.x) seen in
    subst (λ (l : List Dry). Heavy by_end l c.args.at) (sym is) (heavy_later v.items c.args.at c.args.x b.ordered c.requires.within c.requires.later)

pub invariant_of-self : goal.invariant_of-self
invariant_of-self c =
    let v = c.args.self.now.places in
    let seen = c.deref_mut.ensures.value in
    let size = length-set c.deref_mut.result.now c.args.at c.args.x ∙ ap length seen in
    record { few = omega (arith, c.lower.ensures.len, ap length (items-with_items v (set c.deref_mut.result.now c.args.at c.args.x) size), size, c.args.self.now.few); ordered = c.lower.ensures.ordered }

pub returns : goal.returns
returns c =
    let v = c.args.self.now.places in
    let seen = c.deref_mut.ensures.value in
    let size = length-set c.deref_mut.result.now c.args.at c.args.x ∙ ap length seen in
    traded v.items _ _ c.args.at c.args.x c.requires.within (items-with_items v (set c.deref_mut.result.now c.args.at c.args.x) size ∙ ap (λ xs. set xs c.args.at c.args.x) seen) c.lower.ensures.shuffled
