use Rattle.std.proofs.Common.{◌≡◌, ◌<◌, true, length, sym, ap, ◌∙◌, subst}
use Rattle.tick_machine.specs.Lists.{final}
use Rattle.tick_machine.specs.Slots.{round_length, own_slots}
use Rattle.slot_clock.specs.Calls.{no_zero}
use Rattle.slot_clock.specs.Holding.{held_from}
use Rattle.slot_clock.proofs.step.stamp_of.Goals as goal

pub walk_stamp-requires : goal.walk_stamp-requires
walk_stamp-requires c =
    let h = c.args.held.now in
    let e = sym c.weights.ensures in
    record {
      whole = h.layout.whole ∙ ap round_length e;
      some = h.layout.some;
      each = subst (λ x. no_zero x ≡ true) e h.each;
      known = subst (λ x. c.args.session < length x) e c.requires.known;
      long = c.requires.long;
      near = held_from h c.args.session c.args.size c.args.from c.requires;
    }

pub returns : goal.returns
returns c = c.walk_stamp.ensures ∙ ap (λ x. final 0 (own_slots x c.args.session c.args.size c.args.from)) c.weights.ensures
