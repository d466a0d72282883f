use Rattle.std.proofs.Common.{◌≡◌, [], length, vec_items, vec_capacity}
use Rattle.tick_machine.specs.Machine.{Config}
use Rattle.replay.specs.Hand.{Held, Reached}
use Rattle.port.specs.Turns.{TurnedAll}
use Rattle.port.proofs.turns.turn_all.Given as goal

abbrev pub invariant-loop-i : goal.invariant-loop-i
invariant-loop-i g l =
    (vec_capacity l.slips ≡ vec_capacity l.initial.slips) × (length l.answers ≡ length l.initial.answers)
    × Reached g.W.WaitingLine g.S.SlotClock (record { link = l.link; slips = vec_items l.slips })
    × ((c : Config) → Held g.W.WaitingLine g.S.SlotClock c [] (record { link = l.initial.link; slips = vec_items l.initial.slips })
    → TurnedAll g.W.WaitingLine g.S.SlotClock c l.i l.calls l.initial.answers l.answers (record { link = l.link; slips = vec_items l.slips }))
