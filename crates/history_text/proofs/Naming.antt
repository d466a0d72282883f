-- Bytes that are spelled as a word are that word, and others are none. Assumes nothing.
use Rattle.std.proofs.Common.{◌≡◌, ℕ, false, List, [], ◌∷◌, Some, None, Option, sym, refl, ap, ◌∙◌, ⊎_elim}
use Rattle.std.specs.Str.{bytes_eq}
use Rattle.std.proofs.lemmas.Slice.Eq.{bytes_eq-Decides}
use Rattle.std.proofs.lemmas.Bool.{cases_Bool, cond-false}
use Rattle.history_text.specs.declared.words.Word.{Word}
use Rattle.history_text.specs.declared.words.Word.TheVariants.{Link, Sess, Open, Arr, At, Figs, Tots, Take, Filed, Back}
use Rattle.history_text.specs.Vocabulary.{spelled, word_among, vocabulary, word, Spells}

spelled_otherwise : (xs : List ℕ) (w : Word) → (xs ≡ spelled w → ⊥) → bytes_eq xs (spelled w) ≡ false
spelled_otherwise xs w none-spelled = ⊎_elim (λ t. absurd (none-spelled ((bytes_eq-Decides xs (spelled w)).0 t))) (λ e. e) (cases_Bool (bytes_eq xs (spelled w)))

word_among_none : (ws : List Word) (xs : List ℕ) → ((w : Word) → xs ≡ spelled w → ⊥) → word_among ws xs ≡ None
word_among_none [] xs none-spelled = refl
word_among_none (w ∷ ws) xs none-spelled = cond-false (bytes_eq xs (spelled w)) (Some w) (word_among ws xs) (spelled_otherwise xs w (none-spelled w)) ∙ word_among_none ws xs none-spelled

word_of_spelled : (w : Word) → word (spelled w) ≡ Some w
unfolding word
word_of_spelled Link = refl
word_of_spelled Sess = refl
word_of_spelled Open = refl
word_of_spelled Arr = refl
word_of_spelled At = refl
word_of_spelled Figs = refl
word_of_spelled Tots = refl
word_of_spelled Take = refl
word_of_spelled Filed = refl
word_of_spelled Back = refl

pub word_missing : (xs : List ℕ) → ((w : Word) → xs ≡ spelled w → ⊥) → word xs ≡ None
unfolding word
word_missing xs h = word_among_none vocabulary xs h

pub word_is : (xs : List ℕ) (r : Option Word) → Spells xs r → r ≡ word xs
word_is xs None h = sym (word_missing xs h)
word_is xs (Some w) h = sym (ap word h ∙ word_of_spelled w)
