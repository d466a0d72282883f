-- The samples, by computing. Assumes nothing.
use Rattle.std.proofs.Common.{refl}
use Rattle.std.specs.Fmt.{digits}
use Rattle.tick_machine.specs.Slots.{holder}
use Rattle.history_text.specs.Numerals.{numeral}
use Rattle.history_text.specs.Vocabulary.{word}
use Rattle.history_reply.specs.Transcript.{transcript}
use Rattle.history_reply.specs.Samples.{Samples}

pub samples : Samples
unfolding word numeral digits transcript holder
samples = record { small_history = refl; faults = refl; in_hand = refl; behind = refl; empty = refl }
