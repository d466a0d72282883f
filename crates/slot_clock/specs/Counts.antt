-- More on how many numbers below a bound pass a test, and on the lowest that passes. Assumes nothing.
use Rattle.std.specs.Prelude.{◌≡◌, ℕ, zero, suc, ◌+◌, ◌-◌, ◌<◌, ◌≤◌, Bool, true, false, refl}
use Rattle.std.proofs.Common.{ap, ⊎_elim, arith}
use Rattle.std.proofs.lemmas.Bool.{cases_lt, cases_Bool}
use Rattle.tick_machine.specs.Lists.{only, count}
use Rattle.tick_machine.proofs.Lists.{only_yes, only_no, only_at_most}
use Rattle.tick_machine.proofs.Counts.{count_same, count_all, count_none, count_split, count_mono}
use Rattle.tick_machine.proofs.Slots.{Found}

-- a test that is the same throughout
pub count_flat : (f : ℕ → Bool) (b : Bool) (n : ℕ) → ((q : ℕ) → q < n → f q ≡ b) → count f n ≡ only b n
count_flat f true n h = count_all f n h
count_flat f false n h = count_none f n h

pub count_most : (f : ℕ → Bool) (n : ℕ) → count f n ≤ n
count_most f zero = omega arith
count_most f (suc n) = omega (arith, count_most f n, only_at_most (f n) 1)

pub count_rises : (f : ℕ → Bool) (a b : ℕ) → a ≤ b → count f a ≤ count f b
count_rises f a b l = let e : a + (b - a) ≡ b = omega arith in omega (arith, count_mono f a (b - a), ap (count f) e)

-- a number that passes counts
pub count_pass : (f : ℕ → Bool) (s : ℕ) → f s ≡ true → count f (suc s) ≡ count f s + 1
count_pass f s e = omega (arith, only_yes (f s) 1 e)

pub count_fail : (f : ℕ → Bool) (s : ℕ) → f s ≡ false → count f (suc s) ≡ count f s
count_fail f s e = omega (arith, only_no (f s) 1 e)

pub count_above : (f : ℕ → Bool) (s x : ℕ) → f s ≡ true → s < x → count f s < count f x
count_above f s x e l = omega (arith, count_pass f s e, count_rises f (suc s) x l)

-- two that pass, with as many below, are one
pub count_one : (f : ℕ → Bool) (s t : ℕ) → f s ≡ true → f t ≡ true → count f s ≡ count f t → s ≡ t
count_one f s t p q e =
    ⊎_elim (λ (l : s < t). absurd (omega (arith, count_above f s t p l)))
    (λ (l : t ≤ s). ⊎_elim (λ (k : t < s). absurd (omega (arith, count_above f t s q k))) (λ (k : s ≤ t). omega arith) (cases_lt t s)) (cases_lt s t)

-- a number with fewer below it that pass than below x is below x
pub count_below : (f : ℕ → Bool) (s x : ℕ) → count f s < count f x → s < x
count_below f s x h = ⊎_elim (λ k. k) (λ (k : x ≤ s). absurd (omega (arith, count_rises f x s k))) (cases_lt s x)

-- one that passes, with as many below it as below q or more, is not below q
pub count_from : (f : ℕ → Bool) (q s : ℕ) → f s ≡ true → count f q ≤ count f s → q ≤ s
count_from f q s e h = ⊎_elim (λ (k : s < q). absurd (omega (arith, count_above f s q e k))) (λ k. k) (cases_lt s q)

-- two tests that agree from a to x count as many there
pub count_agree : (f g : ℕ → Bool) (a x : ℕ) → a ≤ x → ((q : ℕ) → a ≤ q → q < x → f q ≡ g q) → count f x + count g a ≡ count g x + count f a
count_agree f g a x l h =
    let e : a + (x - a) ≡ x = omega arith in
    omega (
      arith,
      count_split f a (x - a),
      count_split g a (x - a),
      ap (count f) e,
      ap (count g) e,
      count_same (λ p. f (a + p)) (λ p. g (a + p)) (x - a) (λ q k. h (a + q) (omega arith) (omega arith)),
    )

pub found_pass : (test : ℕ → Bool) (q r : ℕ) → Found test q r → test r ≡ true
unfolding Found
found_pass test q r f = f.0

pub found_from : (test : ℕ → Bool) (q r : ℕ) → Found test q r → q ≤ r
unfolding Found
found_from test q r f = f.1

pub found_least : (test : ℕ → Bool) (q r s : ℕ) → Found test q r → q ≤ s → test s ≡ true → r ≤ s
unfolding Found
found_least test q r s f = f.2 s

pub found_made : (test : ℕ → Bool) (q r : ℕ) → test r ≡ true → q ≤ r → ((s : ℕ) → q ≤ s → test s ≡ true → r ≤ s) → Found test q r
unfolding Found
found_made test q r a b c = (a, b, c)

-- the first found is the only one
pub found_same : (test : ℕ → Bool) (q r s : ℕ) → Found test q r → Found test q s → r ≡ s
found_same test q r s f g =
    omega (arith, found_least test q r s f (found_from test q s g) (found_pass test q s g), found_least test q s r g (found_from test q r f) (found_pass test q r f))

-- as many pass below the number found as below the start
pub found_count : (test : ℕ → Bool) (q r : ℕ) → Found test q r → count test r ≡ count test q
found_count test q r f =
    let no : (s : ℕ) → q ≤ s → s < r → test s ≡ false
    = λ s l u. ⊎_elim (λ (e : test s ≡ true). absurd (omega (arith, found_least test q r s f l e))) (λ e. e) (cases_Bool (test s)) in
    let e = count_agree test (λ _. false) q r (found_from test q r f) no in
    omega (arith, e, count_none (λ _. false) r (λ _ _. refl), count_none (λ _. false) q (λ _ _. refl))
