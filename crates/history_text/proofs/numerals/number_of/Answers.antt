use Rattle.std.proofs.Common.{rules}
use Rattle.history_text.proofs.NumberRead.{too_long}
use Rattle.history_text.proofs.numerals.number_of.Goals as goal

pub returns-then-bytes-gt-MOST_DIGITS : goal.returns-then-bytes-gt-MOST_DIGITS
returns-then-bytes-gt-MOST_DIGITS c = too_long c.args.bytes.now (search rules)
