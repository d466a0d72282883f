use Rattle.std.proofs.Common.{rules}
use Rattle.std.specs.Fmt.{digits}
use Rattle.history_reply.proofs.printing.ReplyDisplay.fmt.Goals as goal

pub returns-in-TooLong-clause-writes : goal.returns-in-TooLong-clause-writes
unfolding digits
returns-in-TooLong-clause-writes g c = search rules
