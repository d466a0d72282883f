use Rattle.std.proofs.Common.{◌≡◌, ◌≢◌, get_or, ◌∙◌, rules}
use Rattle.std.specs.Str.Parse.{ParsesUnsigned}
use Rattle.history_text.proofs.NumberRead.{no_text, parsed}
use Rattle.history_text.proofs.numerals.amount_of.Goals as goal

pub returns-in_err-ok : goal.returns-in_err-ok
returns-in_err-ok c l = c.from_residual-in_err-ok.ensures ∙ no_text c.args.digits.now (search rules)

pub returns : goal.returns
returns c l =
    let same : c.in_ok-ok.field-0.now ≡ c.args.digits.now = search rules in
    let reads : ParsesUnsigned 64 10 c.in_ok-ok.field-0.now c.parse.result = c.parse.ensures.value.0 in
    let plus : get_or c.args.digits.now 0 0 ≢ 43 = search rules in
    c.ok-2.ensures.value ∙ parsed c.args.digits.now c.parse.result (rw same at reads) plus l
