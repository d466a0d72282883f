-- How many numbers below a bound pass a test. Assumes nothing.
use Rattle.std.proofs.Common.{◌≡◌, ℕ, zero, suc, ◌+◌, ◌<◌, ◌≤◌, Bool, true, false, sym, refl, ap, ◌∙◌, ⊎_elim, add-zero, add-suc, arith}
use Rattle.std.proofs.lemmas.Bool.{cases_Bool}
use Rattle.tick_machine.specs.Lists.{only, count}

pub count_same : (f g : ℕ → Bool) (n : ℕ) → ((q : ℕ) → q < n → f q ≡ g q) → count f n ≡ count g n
count_same f g zero h = refl
count_same f g (suc n) h =
    let ih = count_same f g n (λ q l. h q (omega arith)) in
    let e = ap (λ b. only b 1) (h n (omega arith)) in
    omega arith

pub count_all : (f : ℕ → Bool) (n : ℕ) → ((q : ℕ) → q < n → f q ≡ true) → count f n ≡ n
count_all f zero h = refl
count_all f (suc n) h = let ih = count_all f n (λ q l. h q (omega arith)) in let e = h n (omega arith) in grind arith

pub count_none : (f : ℕ → Bool) (n : ℕ) → ((q : ℕ) → q < n → f q ≡ false) → count f n ≡ 0
count_none f zero h = refl
count_none f (suc n) h = let ih = count_none f n (λ q l. h q (omega arith)) in let e = h n (omega arith) in grind arith

pub count_split : (f : ℕ → Bool) (w n : ℕ) → count f (w + n) ≡ count f w + count (λ p. f (w + p)) n
count_split f w zero = ap (count f) (add-zero w) ∙ sym (add-zero (count f w))
count_split f w (suc n) =
    let e : count f (w + suc n) ≡ count f (suc (w + n)) = ap (count f) (add-suc w n) in
    omega (arith, e, count_split f w n)

pub count_mono : (f : ℕ → Bool) (a k : ℕ) → count f a ≤ count f (a + k)
count_mono f a k = omega (arith, count_split f a k)

-- where the count grows, a number passes
pub count_hit : (f : ℕ → Bool) (a k : ℕ) → count f a < count f (a + k) → (s : ℕ) × (a ≤ s) × (s < a + k) × (f s ≡ true)
count_hit f a zero h = absurd (omega (arith, ap (count f) (add-zero a)))
count_hit f a (suc k) h =
    let e : count f (a + suc k) ≡ count f (suc (a + k)) = ap (count f) (add-suc a k) in
    ⊎_elim
    (λ (yes : f (a + k) ≡ true). (a + k, omega arith, omega arith, yes))
    (λ (no : f (a + k) ≡ false).
    let same : only (f (a + k)) 1 ≡ 0 = ap (λ b. only b 1) no in
    let ih = count_hit f a k (omega arith) in
    (ih.0, ih.1, omega (arith, ih.2), ih.3))
    (cases_Bool (f (a + k)))
