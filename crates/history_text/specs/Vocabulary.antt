-- The words, how they are spelled, and how many fields come after each. Assumes nothing.
use Rattle.std.specs.Prelude.{◌≡◌, ℕ, cond, List, [], ◌∷◌, Some, None, codes, Option, ◌≢◌}
use Rattle.std.specs.Str.{bytes_eq}
use Rattle.history_text.specs.declared.words.Word.{Word}
use Rattle.history_text.specs.declared.words.Word.TheVariants.{Link, Sess, Open, Arr, At, Figs, Tots, Take, Filed, Back}

abbrev pub spelled : Word → List ℕ
spelled Link = codes "link"
spelled Sess = codes "sess"
spelled Open = codes "open"
spelled Arr = codes "arr"
spelled At = codes "at"
spelled Figs = codes "figs"
spelled Tots = codes "tots"
spelled Take = codes "take"
spelled Filed = codes "filed"
spelled Back = codes "back"

-- how many fields come after the word
abbrev pub arity : Word → ℕ
arity Link = 4
arity Sess = 1
arity Open = 0
arity Arr = 3
arity At = 1
arity Figs = 1
arity Tots = 0
arity Take = 0
arity Filed = 0
arity Back = 0

abbrev pub vocabulary : List Word
vocabulary = Link ∷ Sess ∷ Open ∷ Arr ∷ At ∷ Figs ∷ Tots ∷ Take ∷ Filed ∷ Back ∷ []

-- the first of the words that the bytes spell
abbrev pub word_among : List Word → List ℕ → Option Word
word_among [] xs = None
word_among (w ∷ ws) xs = cond (bytes_eq xs (spelled w)) (Some w) (word_among ws xs)

unfoldable pub word : List ℕ → Option Word
word xs = word_among vocabulary xs

-- the same in other words: it is spelled so, or nothing is
abbrev pub Spells : List ℕ → Option Word → Type 0
Spells xs None = (w : Word) → xs ≢ spelled w
Spells xs (Some w) = xs ≡ spelled w
