-- The fields of a line: their bytes, what each is, and the byte at which it begins, counted from 1. Assumes nothing.
use Rattle.std.specs.Prelude.{◌≡◌, ℕ, ◌+◌, cond, List, [], ◌∷◌, length, Some, None, Err, Option, Result, MatchOption, ◌==◌}
use Rattle.std.specs.Option.{ok_or}
use Rattle.history_text.specs.declared.fields.Token.{Token}
use Rattle.history_text.specs.declared.fields.Token.TheVariants as token
use Rattle.history_text.specs.declared.fields.Field.{Field}
use Rattle.history_text.specs.declared.fields.Fields.{Fields}
use Rattle.history_text.specs.declared.faults.Cause.TheVariants.{NoNumber}
use Rattle.history_text.specs.declared.faults.Fault.{Fault}
use Rattle.history_text.specs.Parts.{left}
use Rattle.history_text.specs.Numerals.{numeral}
use Rattle.history_text.specs.declared.words.Word.{Word}
use Rattle.history_text.specs.Vocabulary.{word}

-- what the bytes of a field are: nothing, a number, or else bytes that may be a word
pub data Kind : Type 0 where
  empty : Kind
  number : ℕ → Kind
  letters : List ℕ → Kind

abbrev pub numbered : List ℕ → Option ℕ → Kind
numbered xs None = letters xs
numbered xs (Some n) = number n

abbrev pub kind : List ℕ → Kind
kind xs = cond (length xs == 0) empty (numbered xs (numeral xs))

-- what a token of the code shows
abbrev pub shown : Token → Kind
shown (token.Word bytes) = letters bytes.now
shown (token.Number n) = number n
shown token.Empty = empty

-- the number that a field of this kind writes
abbrev pub number_in : Kind → Option ℕ
number_in empty = None
number_in (number n) = Some n
number_in (letters xs) = None

-- the word that a field of this kind spells
abbrev pub word_in : Kind → Option Word
word_in empty = None
word_in (number n) = None
word_in (letters xs) = word xs

-- the fields that a reader of them has not passed yet
abbrev pub coming : Fields → List (List ℕ)
coming f = left f.parts

-- the first field, which begins at the byte `at`, is read as this
abbrev pub First : ℕ → List (List ℕ) → Option Field → Type 0
First at [] r = r ≡ None
First at (f ∷ fs) r = MatchOption r ⊥ (λ g. (shown g.token ≡ kind f) × (g.place ≡ at))

-- at this byte there is no number
abbrev pub no_number : ℕ → Fault
no_number at = record { cause = NoNumber; byte = at }

-- the number of the first field, which begins at the byte `at`
abbrev pub first_number : ℕ → List (List ℕ) → Result ℕ Fault
first_number at [] = Err (no_number at)
first_number at (f ∷ fs) = ok_or (numeral f) (no_number at)

-- the fields after the first
abbrev pub later : List (List ℕ) → List (List ℕ)
later [] = []
later (f ∷ fs) = fs

-- where the field after the first begins
abbrev pub onward : ℕ → List (List ℕ) → ℕ
onward at [] = at
onward at (f ∷ fs) = at + (length f + 1)

-- a reader of fields gave the first field that was to come, and goes on after it
pub record TakesField (s : Fields) (r : Option Field) (t : Fields) : Type 0 where
  pub first : First s.place (coming s) r
  pub rest : coming t ≡ later (coming s)
  pub place : t.place ≡ onward s.place (coming s)
