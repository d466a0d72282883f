-- The numbers by which causes of faults are told. Assumes nothing.
use Rattle.std.specs.Prelude.{ℕ}
use Rattle.history_text.specs.declared.faults.Cause.{Cause}
use Rattle.history_text.specs.declared.faults.Cause.TheVariants.{Unknown, Untimely, Miscounted, NoNumber}

abbrev pub cause_number : Cause → ℕ
cause_number Unknown = 61
cause_number Untimely = 62
cause_number Miscounted = 63
cause_number NoNumber = 64
