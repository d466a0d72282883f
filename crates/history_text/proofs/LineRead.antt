-- A line read field by field. Assumes nothing.
use Rattle.std.proofs.Common.{◌≡◌, ℕ, ◌+◌, List, [], ◌∷◌, length, Some, Ok, Err, Result, MatchResult, sym, ap, ◌∙◌, arith}
use Rattle.history_text.specs.declared.words.Word.{Word}
use Rattle.history_text.specs.declared.commands.Phase.{Phase}
use Rattle.history_text.specs.declared.commands.Command.{Command}
use Rattle.history_text.specs.declared.faults.Cause.{Cause}
use Rattle.history_text.specs.declared.faults.Fault.{Fault}
use Rattle.history_text.specs.declared.fields.Field.{Field}
use Rattle.history_text.specs.Vocabulary.{word}
use Rattle.history_text.specs.Fields.{shown, kind, word_in, First, later, onward}
use Rattle.history_text.specs.Readings.{judged, numbers, commanded, asked, reading}
use Rattle.history_text.proofs.KindOf.{word_in_kind}

word_shown : (p : Phase) (f : List ℕ) (fs : List (List ℕ)) (g : Field) (n : ℕ) → shown g.token ≡ kind f → n ≡ length fs → judged p (word_in (shown g.token)) n ≡ judged p (word f) (length fs)
word_shown p f fs g n k e = λ i. judged p ((ap word_in k ∙ sym (word_in_kind f)) i) (e i)

-- the word is at fault
pub word_faulted : (p : Phase) (ls : List (List ℕ)) (g : Field) (n : ℕ) (q : Result Word Cause) (r : Result Command Fault) → First 1 ls (Some g) → n ≡ length (later ls) → q ≡ judged p (word_in (shown g.token)) n → MatchResult q (λ w. ⊥) (λ cause. r ≡ Err (record { cause = cause; byte = g.place })) → r ≡ reading p ls
word_faulted p [] g n q r h e j f = cc
word_faulted p (l ∷ ls) g n (Ok w) r h e j f = absurd f
word_faulted p (l ∷ ls) g n (Err cause) r h e j f =
    f
    ∙ ap (λ (at : ℕ). Err (record { cause = cause; byte = at })) h.1
    ∙ ap (λ (q : Result Word Cause). asked q (length l + 2) ls) (j ∙ word_shown p l ls g n h.0 e)

-- the word is fine, and the numbers are read
pub word_fine : (p : Phase) (ls : List (List ℕ)) (g : Field) (n at : ℕ) (w : Word) (r : Result Command Fault) → First 1 ls (Some g) → n ≡ length (later ls) → at ≡ onward 1 ls → Ok w ≡ judged p (word_in (shown g.token)) n → r ≡ commanded w (numbers at (later ls)) → r ≡ reading p ls
word_fine p [] g n at w r h e a j c = cc
word_fine p (f ∷ fs) g n at w r h e a j c =
    let b : at ≡ length f + 2 = omega arith in
    c
    ∙ ap (λ (k : ℕ). commanded w (numbers k fs)) b
    ∙ ap (λ (q : Result Word Cause). asked q (length f + 2) fs) (j ∙ word_shown p f fs g n h.0 e)
