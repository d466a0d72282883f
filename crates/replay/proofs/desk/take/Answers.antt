use Rattle.std.proofs.Common.{List, subst}
use Rattle.link.specs.declared.slip.Slip.{Slip}
use Rattle.link.specs.Places.{At, Nowhere}
use Rattle.replay.proofs.Hands.{is_taken, not_in_hand}
use Rattle.replay.proofs.desk.take.Goals as goal

pub returns-in-Some-clause-found : goal.returns-in-Some-clause-found
returns-in-Some-clause-found c =
    let at = subst (λ (xs : List Slip). At (λ (s : Slip). s.says.packet) c.args.packet xs c.in-Some.i) c.deref.ensures.value c.in-Some.ensures in
    let said = c.remove.ensures in
    is_taken c.args.own c.args.number c.args.packet _ _ c.in-Some.i c.remove.result c.if-number-own.false at said.value said.items

pub returns-in-None-clause-found : goal.returns-in-None-clause-found
returns-in-None-clause-found c =
    let at = subst (λ (xs : List Slip). Nowhere (λ (s : Slip). s.says.packet) c.args.packet xs) c.deref.ensures.value c.in-None.ensures in
    not_in_hand c.args.own c.args.number c.args.packet _ c.if-number-own.false at
