-- A field's number and its word, told from its kind. Assumes nothing.
use Rattle.std.proofs.Common.{◌≡◌, ℕ, eqb, List, [], ◌∷◌, length, Some, None, Option, sym, refl, ap, ◌∙◌, arith}
use Rattle.history_text.specs.declared.words.Word.{Word}
use Rattle.history_text.specs.declared.words.Word.TheVariants.{Link, Sess, Open, Arr, At, Figs, Tots, Take, Filed, Back}
use Rattle.history_text.specs.Numerals.{numeral}
use Rattle.history_text.specs.Vocabulary.{spelled, word}
use Rattle.history_text.specs.Fields.{numbered, kind, number_in, word_in}
use Rattle.std.proofs.lemmas.Bool.{ne_eqb, cond-false}
use Rattle.history_text.proofs.Naming.{word_missing}

kind_of_bytes : (x : ℕ) (xs : List ℕ) → numbered (x ∷ xs) (numeral (x ∷ xs)) ≡ kind (x ∷ xs)
kind_of_bytes x xs = sym (cond-false (eqb (length (x ∷ xs)) 0) _ _ (ne_eqb (length (x ∷ xs)) 0 (λ e. omega arith)))

number_in_numbered : (xs : List ℕ) (o : Option ℕ) → o ≡ number_in (numbered xs o)
number_in_numbered xs None = refl
number_in_numbered xs (Some n) = refl

pub number_in_kind : (xs : List ℕ) → numeral xs ≡ number_in (kind xs)
unfolding numeral
number_in_kind [] = refl
number_in_kind (x ∷ xs) = number_in_numbered (x ∷ xs) (numeral (x ∷ xs)) ∙ ap number_in (kind_of_bytes x xs)

no_word_is_a_number : (w : Word) → numeral (spelled w) ≡ None
unfolding numeral
no_word_is_a_number Link = refl
no_word_is_a_number Sess = refl
no_word_is_a_number Open = refl
no_word_is_a_number Arr = refl
no_word_is_a_number At = refl
no_word_is_a_number Figs = refl
no_word_is_a_number Tots = refl
no_word_is_a_number Take = refl
no_word_is_a_number Filed = refl
no_word_is_a_number Back = refl

number_spells_nothing : (xs : List ℕ) (n : ℕ) (w : Word) → numeral xs ≡ Some n → xs ≡ spelled w → ⊥
number_spells_nothing xs n w e s = let p = no_word_is_a_number w in cc

word_in_numbered : (xs : List ℕ) (o : Option ℕ) → numeral xs ≡ o → word xs ≡ word_in (numbered xs o)
word_in_numbered xs None e = refl
word_in_numbered xs (Some n) e = word_missing xs (λ w. number_spells_nothing xs n w e)

pub word_in_kind : (xs : List ℕ) → word xs ≡ word_in (kind xs)
unfolding word
word_in_kind [] = refl
word_in_kind (x ∷ xs) = word_in_numbered (x ∷ xs) (numeral (x ∷ xs)) refl ∙ ap word_in (kind_of_bytes x xs)
