use Rattle.std.proofs.Common.{length, sym, ap, ◌∙◌, subst}
use Rattle.tick_machine.specs.Slots.{round_length}
use Rattle.tick_machine.specs.Owed.{owed_slots}
use Rattle.slot_clock.specs.Walk.{ticks_cursor, Tops}
use Rattle.slot_clock.specs.Held.{weights_of, next_of}
use Rattle.slot_clock.proofs.step.after.Goals as goal

pub walk-requires : goal.walk-requires
walk-requires c =
    let h = c.args.held.now in
    let e = sym c.weights.ensures in
    let f = sym c.nexts.ensures in
    record {
      whole = h.layout.whole ∙ ap round_length e;
      some = h.layout.some;
      same = ap length (sym f) ∙ h.same ∙ ap length e;
      tops = subst (λ x. Tops x c.nexts.result.now) e (subst (λ y. Tops (weights_of h) y) f h.tops);
      owed = h.sum ∙ ap (λ x. length (owed_slots x h.cursor (next_of h))) e ∙ ap (λ y. length (owed_slots c.weights.result.now h.cursor y)) f;
    }

pub returns : goal.returns
returns c =
    let h = c.args.held.now in
    c.walk.ensures ∙ ap (λ x. ticks_cursor x c.nexts.result.now c.args.ticks h.cursor) c.weights.ensures
    ∙ ap (λ y. ticks_cursor (weights_of h) y c.args.ticks h.cursor) c.nexts.ensures
