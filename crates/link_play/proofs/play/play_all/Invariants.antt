use Rattle.std.proofs.Common.{◌≡◌, ◌+◌, List, drop, vec_items, vec_len, vec_capacity}
use Rattle.tick_machine.specs.declared.call.Call.{Call}
use Rattle.tick_machine.specs.Machine.{Config}
use Rattle.link.specs.Promise.{Led}
use Rattle.link_play.specs.Plays.{Playing}
use Rattle.link_play.proofs.play.play_all.Given as goal

abbrev pub invariant-loop-step : goal.invariant-loop-step
invariant-loop-step g l =
    (vec_len l.answers ≡ vec_len l.initial.answers + l.step-index) × (vec_capacity l.answers ≡ vec_capacity l.initial.answers)
    × ((c : Config) (calls : List Call) → Led g.W.WaitingLine g.S.SlotClock c calls l.initial.link
    → Playing g.W.WaitingLine g.S.SlotClock c calls l.steps (vec_items l.initial.answers) (drop l.step-index l.steps) (vec_items l.answers) l.link)
