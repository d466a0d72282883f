-- What the library reads is the number that the digits write. Assumes nothing.
use Rattle.std.proofs.Common.{◌≡◌, ◌≢◌, ℕ, zero, suc, ◌+◌, ◌-◌, ◌*◌, ◌^◌, ◌<◌, ◌≤◌, ⊎_elim, Bool, true, false, ltb, List, [], ◌∷◌, length, get_or, slice_index, Some, None, Ok, Err, Result, sym, ap, ◌∙◌, refl, arith, rules}
use Rattle.std.proofs.lemmas.Bool.{cond-true, cond-false, and_from, and_left, and_right, or_right, lt-ltb, le-ltb, eq-eqb, true≢false, cases_Bool}
use Rattle.std.proofs.lemmas.Str.{IsUtf8-from_ascii}
use Rattle.std.proofs.lemmas.Str.Parse.{IsNumeralModel, numerals_by_fold, parse_plain}
use Rattle.std.specs.Str.{IsUtf8}
use Rattle.std.specs.Str.Parse.{ParsesUnsigned}
use Rattle.std.specs.Result.{OkIff, result_ok}
use Rattle.history_text.specs.Numerals.{digit, digits, value, amount, ill_formed, numeral}

own : IsNumeralModel (λ ds. digits ds ≡ true) (value 0)
own = numerals_by_fold _ (search rules) value (search rules)

digit_small : (x : ℕ) → digit x ≡ true → x < 128
digit_small x h = grind (arith, h)

ascii : (bs : List ℕ) → digits bs ≡ true → (i : ℕ) → slice_index bs i < 128
ascii [] h i = omega arith
ascii (x ∷ xs) h zero = digit_small x (search (rules, h))
ascii (x ∷ xs) h (suc i) = ascii xs (search (rules, h)) i

amount_untrue : (bs : List ℕ) (b : Bool) → digits bs ≡ b → (IsUtf8 bs → ⊥) → None ≡ amount 0 bs
amount_untrue bs true h n = absurd (n (IsUtf8-from_ascii bs (ascii bs h)))
amount_untrue bs false h n = sym (cond-false _ (Some (value 0 bs)) None (and_left _ _ h))

-- digits are a text
pub no_text : (bs : List ℕ) → (IsUtf8 bs → ⊥) → None ≡ amount 0 bs
no_text bs n = amount_untrue bs (digits bs) refl n

read : {E : Type 0} (bs : List ℕ) (r : Result ℕ E) (b small : Bool) → digits bs ≡ b → ltb (value 0 bs) (2 ^ 64) ≡ small → 0 < length bs
    → OkIff r ((digits bs ≡ true) × (0 < length bs) × (value 0 bs < 2 ^ 64)) (value 0 bs) → result_ok r ≡ amount 0 bs
read bs (Ok x) b small d s l h = ap Some h.1 ∙ sym (cond-true _ _ None (and_from _ _ h.0.0 (lt-ltb _ _ h.0.2)))
read bs (Err e) true true d s l h = absurd (h (d, l, grind (arith, s)))
read bs (Err e) false small d s l h = sym (cond-false _ (Some (value 0 bs)) None (and_left _ _ d))
read bs (Err e) true false d s l h = sym (cond-false _ (Some (value 0 bs)) None (and_right _ _ s))

-- what `parse` reads, where no plus is in front
pub parsed : {E : Type 0} (bs : List ℕ) (r : Result ℕ E) → ParsesUnsigned 64 10 bs r → get_or bs 0 0 ≢ 43 → 0 < length bs → result_ok r ≡ amount 0 bs
parsed bs r h plus l = read bs r (digits bs) (ltb (value 0 bs) (2 ^ 64)) refl refl l (parse_plain own 64 bs r h plus)

-- so many digits after a number n write at least this
abbrev tens : ℕ → ℕ → ℕ
tens zero n = n
tens (suc k) n = tens k (n * 10)

tens_more : (k m n : ℕ) → m ≤ n → tens k m ≤ tens k n
tens_more zero m n h = h
tens_more (suc k) m n h = tens_more k (m * 10) (n * 10) (omega arith)

value_more : (k n : ℕ) (xs : List ℕ) → k ≤ length xs → tens k n ≤ value n xs
value_more zero n [] h = omega arith
value_more zero n (x ∷ xs) h = omega (arith, value_more zero (n * 10 + (x - 48)) xs (omega arith))
value_more (suc k) n [] h = absurd (omega arith)
value_more (suc k) n (x ∷ xs) h = omega (arith, tens_more k (n * 10) (n * 10 + (x - 48)) (omega arith), value_more k (n * 10 + (x - 48)) xs (omega arith))

wide : (x : ℕ) (xs : List ℕ) → digit x ≡ true → (x ≡ 48 → ⊥) → 20 ≤ length xs → 2 ^ 64 ≤ value 0 (x ∷ xs)
wide x xs d z l =
    let some : 49 ≤ x = grind (arith, d, z) in
    omega (arith, tens_more 20 1 (x - 48) (omega arith), value_more 20 (0 * 10 + (x - 48)) xs l)

too_wide : (x : ℕ) (xs : List ℕ) (b : Bool) → digits (x ∷ xs) ≡ b → (x ≡ 48 → ⊥) → 20 ≤ length xs → None ≡ amount 0 (x ∷ xs)
too_wide x xs true d z l = sym (cond-false _ (Some (value 0 (x ∷ xs))) None (and_right _ _ (le-ltb _ _ (wide x xs (search (rules, d)) z l))))
too_wide x xs false d z l = sym (cond-false _ (Some (value 0 (x ∷ xs))) None (and_left _ _ d))

-- more than twenty digits, of which the first is no zero, write no number below 2 ^ 64
pub too_long : (bs : List ℕ) → 20 < length bs → None ≡ numeral bs
unfolding numeral
too_long [] l = absurd (omega arith)
too_long (x ∷ xs) l =
    let more : 1 < length (x ∷ xs) = omega arith in
    ⊎_elim
    (λ (t : ill_formed (x ∷ xs) ≡ true). sym (cond-true (ill_formed (x ∷ xs)) None (amount 0 (x ∷ xs)) t))
    (λ (f : ill_formed (x ∷ xs) ≡ false).
    let other : x ≡ 48 → ⊥ = λ e. true≢false (sym (or_right _ _ (and_from _ _ (lt-ltb 1 (length (x ∷ xs)) more) (eq-eqb x 48 e))) ∙ f) in
    too_wide x xs (digits (x ∷ xs)) refl other (omega arith) ∙ sym (cond-false (ill_formed (x ∷ xs)) None (amount 0 (x ∷ xs)) f))
    (cases_Bool (ill_formed (x ∷ xs)))
