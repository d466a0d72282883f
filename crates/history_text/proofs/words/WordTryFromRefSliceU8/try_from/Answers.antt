use Rattle.std.proofs.Common.{Option, ap, ◌∙◌}
use Rattle.std.specs.Option.{ok_or}
use Rattle.history_text.specs.declared.words.Word.{Word}
use Rattle.history_text.specs.declared.faults.Cause.TheVariants.{Unknown}
use Rattle.history_text.proofs.Naming.{word_is}
use Rattle.history_text.proofs.words.WordTryFromRefSliceU8.try_from.Goals as goal

pub returns : goal.returns
returns c = c.ok_or.ensures.value ∙ ap (λ (o : Option Word). ok_or o Unknown) (word_is c.args.bytes.now c.spell.result c.spell.ensures)
