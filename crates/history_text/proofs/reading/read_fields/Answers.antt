use Rattle.std.proofs.Common.{◌≡◌, length, Some, Ok, rules}
use Rattle.history_text.specs.Fields.{coming, First, later, onward}
use Rattle.history_text.proofs.LineRead.{word_faulted, word_fine}
use Rattle.history_text.proofs.reading.read_fields.Goals as goal

pub returns-in_err-word : goal.returns-in_err-word
returns-in_err-word c =
    let ls = coming c.args.fields.now in
    let h : First 1 ls (Some c.in_ok-first.first) = search rules in
    word_faulted c.args.phase ls c.in_ok-first.first (length (later ls)) c.judge.result c.from_residual-in_err-word.result h (search rules) (search rules) (search rules)

pub returns : goal.returns
returns c =
    let ls = coming c.args.fields.now in
    let h : First 1 ls (Some c.in_ok-first.first) = search rules in
    let a : c.next.new.self.place ≡ onward 1 ls = search rules in
    let j : c.judge.result ≡ Ok c.in_ok-word.word = search rules in
    word_fine c.args.phase ls c.in_ok-first.first (length (later ls)) c.next.new.self.place c.in_ok-word.word c.command_from.result h (search rules) a (search rules) (search rules)
