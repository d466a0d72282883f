use Rattle.std.proofs.Common.{◌≡◌, drop, Err, rules}
use Rattle.tick_machine.specs.Life.{made}
use Rattle.link.specs.declared.error.MakeError.TheVariants.{Refused}
use Rattle.port.specs.Preparing.{first_weight}
use Rattle.port.proofs.Drawing.{prepared, prepared_not}
use Rattle.port.proofs.preparing.prepare.Goals as goal

pub returns-in_err-add_all : goal.returns-in_err-add_all
returns-in_err-add_all g c =
    let x = made c.args.number c.args.largest c.args.capacity (first_weight c.args.weights.now) in
    let ws = drop 1 c.args.weights.now in
    let told : c.from_residual-in_err-add_all.result ≡ Err (Refused c.in_err-add_all.field-0.0) = search rules in
    rw told (prepared_not g.W.WaitingLine ws c.in_ok-draft.draft c.add_all.new.draft c.in_err-add_all.field-0.0 x (search rules) (search rules))

pub returns : goal.returns
returns g c =
    let x = made c.args.number c.args.largest c.args.capacity (first_weight c.args.weights.now) in
    prepared g.W.WaitingLine (drop 1 c.args.weights.now) c.in_ok-draft.draft c.add_all.new.draft x (search rules) (search rules)
