use Rattle.std.proofs.Common.{◌≡◌, drop, Err, rules}
use Rattle.tick_machine.specs.Life.{made}
use Rattle.link.specs.declared.error.MakeError.TheVariants.{NoMemory}
use Rattle.port.specs.Preparing.{first_weight}
use Rattle.port.proofs.Drawing.{not_played}
use Rattle.port.proofs.exports.prepare_and_play.Goals as goal

pub returns-in_err-play : goal.returns-in_err-play
returns-in_err-play g c =
    let x = made c.args.number c.args.largest c.args.capacity (first_weight c.args.weights.now) in
    let told : c.from_residual-in_err-play.result ≡ Err (NoMemory c.in_err-play.field-0.0) = search rules in
    rw told (not_played g.W.WaitingLine c.in_ok-draft.draft c.args.calls.now c.args.answers.now c.play.new.answers c.in_err-play.ensures x (drop 1 c.args.weights.now) (search rules))
