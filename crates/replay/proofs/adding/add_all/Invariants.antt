use Rattle.std.proofs.Common.{◌≡◌, ◌+◌, take, vec_items, vec_len, vec_capacity}
use Rattle.tick_machine.specs.Machine.{Config}
use Rattle.link.specs.Drafting.{Drafts}
use Rattle.replay.specs.Hand.{AddedAll}
use Rattle.replay.proofs.adding.add_all.Given as goal

abbrev pub invariant-loop-weight : goal.invariant-loop-weight
invariant-loop-weight g l =
    (vec_len l.answers ≡ vec_len l.initial.answers + l.weight-index) × (vec_capacity l.answers ≡ vec_capacity l.initial.answers)
    × ((c : Config) → Drafts g.W.WaitingLine c l.initial.draft
    → AddedAll g.W.WaitingLine c (take l.weight-index l.addings) (vec_items l.initial.answers) l.draft (vec_items l.answers))
