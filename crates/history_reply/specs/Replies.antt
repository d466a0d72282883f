-- How a reply reads: its word, and then its values with a space before each. Assumes nothing.
use Rattle.std.specs.Prelude.{ℕ, List, [], ◌∷◌, ◌++◌, ℤ, pos, Some, None, codes, Option}
use Rattle.std.specs.Fmt.{signed_decimal}
use Rattle.tick_machine.specs.declared.packet.SlipCopy.{SlipCopy}
use Rattle.tick_machine.specs.declared.call.Answer.{Answer}
use Rattle.tick_machine.specs.declared.call.Answer.TheVariants.{Made, Added, Opened, Accepted, Moved, Collected, Filed, Returned, FiguresAre, TotalsAre, Refused}
use Rattle.tick_machine.specs.Values.{values}
use Rattle.history_text.specs.Causes.{cause_number}
use Rattle.history_reply.specs.declared.replies.Reply.{Reply}
use Rattle.history_reply.specs.declared.replies.Reply.TheVariants as reply

-- the word before a slip's values; that there is no slip is said in words too
abbrev pub took : Option SlipCopy → List ℕ
took None = codes "took none"
took (Some s) = codes "took"

-- the word of each kind of answer
abbrev pub answer_word : Answer → List ℕ
answer_word (Made link) = codes "link"
answer_word (Added session) = codes "sess"
answer_word (Opened round) = codes "open"
answer_word (Accepted number stamp latest) = codes "arr"
answer_word (Moved clock left) = codes "at"
answer_word (Collected o) = took o
answer_word (Filed number) = codes "filed"
answer_word (Returned number) = codes "back"
answer_word (FiguresAre f) = codes "figs"
answer_word (TotalsAre t) = codes "tots"
answer_word (Refused e) = codes "refused"

-- values in decimal, a negative one with a minus sign before it, each after a space
abbrev pub spaced : List ℤ → List ℕ
spaced [] = []
spaced (v ∷ vs) = 32 ∷ (signed_decimal v ++ spaced vs)

abbrev pub phrase : List ℕ → List ℤ → List ℕ
phrase word vs = word ++ spaced vs

abbrev pub answer_text : Answer → List ℕ
answer_text a = phrase (answer_word a) (values a)

-- a fault tells its cause, the line and the byte; an input that is too long, 60 and two zeros
abbrev pub spoken : Reply → List ℕ
spoken (reply.Fault line f) = phrase (codes "text") (pos (cause_number f.cause) ∷ pos line ∷ pos f.byte ∷ [])
spoken reply.TooLong = phrase (codes "text") (pos 60 ∷ pos 0 ∷ pos 0 ∷ [])
spoken (reply.Answer a) = answer_text a

-- with the byte that ends the line
abbrev pub line_of : Reply → List ℕ
line_of r = spoken r ++ 10 ∷ []
