use Rattle.std.proofs.Common.{◌≡◌, ◌+◌, [], take, vec_items, vec_len, vec_capacity}
use Rattle.tick_machine.specs.Machine.{Config}
use Rattle.replay.specs.Hand.{Held, Reached, Called}
use Rattle.replay.proofs.desk.call_all.Given as goal

abbrev pub invariant-loop-call : goal.invariant-loop-call
invariant-loop-call g l =
    (vec_capacity l.slips ≡ vec_capacity l.initial.slips) × (vec_len l.answers ≡ vec_len l.initial.answers + l.call-index) × (vec_capacity l.answers ≡ vec_capacity l.initial.answers)
    × Reached g.W.WaitingLine g.S.SlotClock (record { link = l.link; slips = vec_items l.slips })
    × ((c : Config) → Held g.W.WaitingLine g.S.SlotClock c [] (record { link = l.initial.link; slips = vec_items l.initial.slips })
    → Called g.W.WaitingLine g.S.SlotClock c (take l.call-index l.calls) (vec_items l.initial.answers) (record { link = l.link; slips = vec_items l.slips }) (vec_items l.answers))
