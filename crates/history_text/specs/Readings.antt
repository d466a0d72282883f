-- What the fields of a line ask for, or what is wrong with them. The tests run in the order of the causes: an unknown word, a word out of
-- turn, a wrong number of fields, a field that is no number. Assumes nothing.
use Rattle.std.specs.Prelude.{ℕ, ◌+◌, Bool, true, false, cond, List, [], ◌∷◌, length, Some, None, Ok, Err, Option, Result, ◌==◌, slice_index}
use Rattle.tick_machine.specs.declared.call.Settlement.TheVariants as how
use Rattle.history_text.specs.declared.words.Word.{Word}
use Rattle.history_text.specs.declared.words.Word.TheVariants.{Link, Sess, Open, Arr, At, Figs, Tots, Take, Filed, Back}
use Rattle.history_text.specs.declared.commands.Phase.{Phase}
use Rattle.history_text.specs.declared.commands.Phase.TheVariants as phase
use Rattle.history_text.specs.declared.commands.Command.{Command}
use Rattle.history_text.specs.declared.commands.Command.TheVariants as command
use Rattle.history_text.specs.declared.faults.Cause.{Cause}
use Rattle.history_text.specs.declared.faults.Cause.TheVariants.{Unknown, Untimely, Miscounted}
use Rattle.history_text.specs.declared.faults.Fault.{Fault}
use Rattle.history_text.specs.Numerals.{numeral}
use Rattle.history_text.specs.Fields.{no_number}
use Rattle.history_text.specs.Vocabulary.{word, arity}

-- before an accepted `link`: only `link`
abbrev pub begins : Word → Bool
begins Link = true
begins Sess = false
begins Open = false
begins Arr = false
begins At = false
begins Figs = false
begins Tots = false
begins Take = false
begins Filed = false
begins Back = false

-- in a draft: `sess` and `open`
abbrev pub drafts : Word → Bool
drafts Link = false
drafts Sess = true
drafts Open = true
drafts Arr = false
drafts At = false
drafts Figs = false
drafts Tots = false
drafts Take = false
drafts Filed = false
drafts Back = false

-- after `open` the rest, of which `take` only without a slip in hand, and `filed` and `back` only with one
abbrev pub runs : Bool → Word → Bool
runs in_hand Link = false
runs in_hand Sess = false
runs in_hand Open = false
runs in_hand Arr = true
runs in_hand At = true
runs in_hand Figs = true
runs in_hand Tots = true
runs in_hand Take = cond in_hand false true
runs in_hand Filed = in_hand
runs in_hand Back = in_hand

abbrev pub in_turn : Phase → Word → Bool
in_turn phase.Before w = begins w
in_turn phase.Draft w = drafts w
in_turn phase.Open w = runs false w
in_turn phase.Holding w = runs true w

-- a word, with so many fields after it
abbrev pub judged : Phase → Option Word → ℕ → Result Word Cause
judged p None n = Err Unknown
judged p (Some w) n = cond (in_turn p w) (cond (n == arity w) (Ok w) (Err Miscounted)) (Err Untimely)

-- a number before others
abbrev pub prepend : ℕ → Result (List ℕ) Fault → Result (List ℕ) Fault
prepend n (Ok ns) = Ok (n ∷ ns)
prepend n (Err e) = Err e

abbrev pub joined : ℕ → Option ℕ → Result (List ℕ) Fault → Result (List ℕ) Fault
joined at None r = Err (no_number at)
joined at (Some n) r = prepend n r

-- the numbers of the fields, of which the first begins at the byte `at`; or that the first field is at fault that is no number
abbrev pub numbers : ℕ → List (List ℕ) → Result (List ℕ) Fault
numbers at [] = Ok []
numbers at (f ∷ fs) = joined at (numeral f) (numbers (at + (length f + 1)) fs)

-- the command of a word with its numbers
abbrev pub command_of : Word → List ℕ → Command
command_of Link ns = command.Make (record { number = slice_index ns 0; largest = slice_index ns 1; capacity = slice_index ns 2; weight = slice_index ns 3 })
command_of Sess ns = command.Add (slice_index ns 0)
command_of Open ns = command.Open
command_of Arr ns = command.Arrive (slice_index ns 0) (slice_index ns 1) (slice_index ns 2)
command_of At ns = command.MoveTo (slice_index ns 0)
command_of Figs ns = command.AskFigures (slice_index ns 0)
command_of Tots ns = command.AskTotals
command_of Take ns = command.Take
command_of Filed ns = command.Settle how.File
command_of Back ns = command.Settle how.Return

abbrev pub commanded : Word → Result (List ℕ) Fault → Result Command Fault
commanded w (Ok ns) = Ok (command_of w ns)
commanded w (Err e) = Err e

abbrev pub asked : Result Word Cause → ℕ → List (List ℕ) → Result Command Fault
asked (Err c) at fs = Err (record { cause = c; byte = 1 })
asked (Ok w) at fs = commanded w (numbers at fs)

-- what the fields of a line ask for; no line is cut into no fields
abbrev pub reading : Phase → List (List ℕ) → Result Command Fault
reading p [] = Err (record { cause = Unknown; byte = 1 })
reading p (f ∷ fs) = asked (judged p (word f) (length fs)) (length f + 2) fs
