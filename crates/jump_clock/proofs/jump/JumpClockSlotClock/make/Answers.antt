use Rattle.std.proofs.Common.{length}
use Rattle.slot_clock.specs.Held.{weights_of, next_of}
use Rattle.jump_clock.specs.Dries.{items}
use Rattle.jump_clock.proofs.Busies.{holds_none}
use Rattle.jump_clock.proofs.jump.JumpClockSlotClock.make.Goals as goal

pub invariant_of-result : goal.invariant_of-result
invariant_of-result c =
    let h = c.in_ok-held.held in
    let f = c.in_ok-held.ensures.fresh in
    record { holds = holds_none (items c.empty.result) h.cursor (next_of h) (length (weights_of h)) c.empty.ensures f.0 f.1 }
