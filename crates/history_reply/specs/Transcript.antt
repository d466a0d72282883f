-- All that is printed, as a function of the input. Assumes nothing.
use Rattle.std.specs.Prelude.{◌≡◌, ℕ, ◌+◌, cond, List, [], ◌∷◌, ◌++◌, length, Some, None, Ok, Err, Option, Result, nat_lt}
use Rattle.tick_machine.specs.declared.packet.SlipCopy.{SlipCopy}
use Rattle.tick_machine.specs.declared.call.Call.TheVariants.{Return}
use Rattle.tick_machine.specs.Machine.{Config, Machine}
use Rattle.tick_machine.specs.Life.{respond}
use Rattle.history_text.specs.declared.commands.Command.{Command}
use Rattle.history_text.specs.declared.faults.Fault.{Fault}
use Rattle.history_reply.specs.declared.replies.Reply.TheVariants as reply
use Rattle.history_text.specs.Cuts.{cut}
use Rattle.history_text.specs.Readings.{reading}
use Rattle.history_reply.specs.Replies.{line_of}
use Rattle.history_reply.specs.Stages.{Stage, before, draft, running, phase_of, Turn, obey}

-- a line is faulty, or its command is obeyed
abbrev pub answered : ℕ → Stage → Result Command Fault → Turn
answered n s (Ok x) = obey n s x
answered n s (Err f) = record { says = reply.Fault n f; next = s }

abbrev pub turn : ℕ → Stage → List ℕ → Turn
turn n s line = answered n s (reading (phase_of s) (cut 32 line))

-- the lines that line n prints: one, or none if it is empty
abbrev pub said : ℕ → Stage → List ℕ → List (List ℕ)
said n s [] = []
said n s (x ∷ xs) = line_of (turn n s (x ∷ xs)).says ∷ []

-- the stage after it
abbrev pub after_line : ℕ → Stage → List ℕ → Stage
after_line n s [] = s
after_line n s (x ∷ xs) = (turn n s (x ∷ xs)).next

-- a slip that is in hand at the end is returned
abbrev pub given_back : Config → Machine → Option SlipCopy → List (List ℕ)
given_back c m None = []
given_back c m (Some s) = line_of (reply.Answer (respond c m (Return s.link s.packet)).1) ∷ []

abbrev pub ending : Stage → List (List ℕ)
ending before = []
ending (draft c) = []
ending (running c m hand) = given_back c m hand

-- the lines that are printed from line n on
abbrev pub saying : ℕ → Stage → List (List ℕ) → List (List ℕ)
saying n s [] = ending s
saying n s (line ∷ lines) = said n s line ++ saying (n + 1) (after_line n s line) lines

-- the lines that are printed for an input; no more than 65,536 bytes are read
abbrev pub printed_lines : List ℕ → List (List ℕ)
printed_lines input = cond (nat_lt 65536 (length input)) (line_of reply.TooLong ∷ []) (saying 1 before (cut 10 input))

-- lines one after another
abbrev pub together : List (List ℕ) → List ℕ
together [] = []
together (line ∷ lines) = line ++ together lines

-- ALL THAT IS PRINTED
unfoldable pub transcript : List ℕ → List ℕ
transcript input = together (printed_lines input)

-- new is old with some first lines of what was to be printed after it, all of them whole
pub record Front (old : List ℕ) (lines : List (List ℕ)) (new : List ℕ) : Type 0 where
  pub printed : List (List ℕ)
  pub missing : List (List ℕ)
  pub all : printed ++ missing ≡ lines
  pub is : new ≡ old ++ together printed
