use Rattle.std.proofs.Common.{◌-◌, ◌≤◌, List}
use Rattle.tick_machine.specs.declared.call.Call.{Call}
use Rattle.tick_machine.specs.Machine.{Config, ticks}
use Rattle.tick_machine.specs.Life.{after}
use Rattle.link.specs.Shown.{Shown}
use Rattle.link.specs.Promise.{Led}
use Rattle.link.proofs.link.Link.move_to.Given as goal

abbrev pub invariant-loop-self : goal.invariant-loop-self
invariant-loop-self g l =
    (l.initial.self.clock ≤ l.self.clock) × (l.self.clock ≤ l.tick)
    × ((c : Config) (calls : List Call) → Led g.W.WaitingLine g.S.SlotClock c calls l.initial.self
    → Shown g.W.WaitingLine g.S.SlotClock c (ticks c (l.self.clock - l.initial.self.clock) (after c calls)) l.self)

abbrev pub decreases-loop-self : goal.decreases-loop-self
decreases-loop-self g l = l.tick - l.self.clock
