use Rattle.tick_machine.specs.Machine.{Config}
use Rattle.link.specs.Drafting.{Drafts}
use Rattle.port.proofs.Addings.{Come}
use Rattle.port.proofs.preparing.add_all.Given as goal

abbrev pub invariant-loop-weight : goal.invariant-loop-weight
invariant-loop-weight g l =
    (c : Config) → Drafts g.W.WaitingLine c l.initial.draft
    → Come g.W.WaitingLine c l.weights l.weight-index l.draft
