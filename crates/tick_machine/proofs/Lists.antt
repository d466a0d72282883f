-- What the words on lists give. Assumes nothing.
use Rattle.std.proofs.Common.{◌≡◌, ℕ, suc, ◌+◌, ◌≤◌, Bool, true, false, eqb, ltb, List, [], ◌∷◌, ◌++◌, length, refl, arith}
use Rattle.std.proofs.lemmas.Bool.Decides.{nat_tests}
use Rattle.std.proofs.lemmas.Bool.{ltb-true, ltb-false, cond_both, cond-true, cond-false}
use Rattle.tick_machine.specs.Lists.{total, only, All, none, more, Rising, insert, insert_all, final}

module _ {X : Type 0} where
  pub head : {P : X → Type 0} {x : X} {xs : List X} → All P (x ∷ xs) → P x
  head (more h t) = h

  pub tail : {P : X → Type 0} {x : X} {xs : List X} → All P (x ∷ xs) → All P xs
  tail (more h t) = t

  pub all_map : {P Q : X → Type 0} {xs : List X} → All P xs → ((x : X) → P x → Q x) → All Q xs
  all_map none f = none
  all_map (more h t) f = more (f _ h) (all_map t f)

  pub all_push : {P : X → Type 0} (xs : List X) (x : X) → All P xs → P x → All P (xs ++ x ∷ [])
  all_push [] x h p = more p none
  all_push (y ∷ ys) x h p = more (head h) (all_push ys x (tail h) p)

  pub all_zip : {P Q R : X → Type 0} {xs : List X} → All P xs → All Q xs → ((x : X) → P x → Q x → R x) → All R xs
  all_zip none none f = none
  all_zip (more h t) (more k u) f = more (f _ h k) (all_zip t u f)

  module _ (key : X → ℕ) where
    pub total_insert : (f : X → ℕ) (x : X) (xs : List X) → total f (insert key x xs) ≡ f x + total f xs
    total_insert f x [] = refl
    total_insert f x (y ∷ ys) = let ih = total_insert f x ys in grind (arith, nat_tests)

    pub all_insert : {P : X → Type 0} (x : X) (xs : List X) → P x → All P xs → All P (insert key x xs)
    all_insert x [] p h = more p none
    all_insert {P} x (y ∷ ys) p h =
        cond_both (ltb (key x) (key y)) (x ∷ y ∷ ys) (y ∷ insert key x ys) (All P) (λ _. more p h) (λ _. more (head h) (all_insert x ys p (tail h)))

    pub rising_insert : (x : X) (xs : List X) → All (λ y. key y ≡ key x → ⊥) xs → Rising key xs → Rising key (insert key x xs)
    rising_insert x [] d h = (none, tt)
    rising_insert x (y ∷ ys) d h =
        cond_both (ltb (key x) (key y)) (x ∷ y ∷ ys) (y ∷ insert key x ys) (Rising key)
        (λ e. let l = ltb-true (key x) (key y) e in (more l (all_map h.0 (λ z k. omega arith)), h))
        (λ e. let l = ltb-false (key x) (key y) e in
        (all_insert x ys (omega (arith, head d)) h.0, rising_insert x ys (tail d) h.1))

pub total_insert_all : (f : ℕ → ℕ) (qs os : List ℕ) → total f (insert_all qs os) ≡ total f qs + total f os
total_insert_all f [] os = omega arith
total_insert_all f (q ∷ qs) os = omega (arith, total_insert (λ s. s) f q (insert_all qs os), total_insert_all f qs os)

pub length_insert : {X : Type 0} (key : X → ℕ) (x : X) (xs : List X) → length (insert key x xs) ≡ suc (length xs)
length_insert key x [] = refl
length_insert key x (y ∷ ys) =
    cond_both (ltb (key x) (key y)) (x ∷ y ∷ ys) (y ∷ insert key x ys) (λ zs. length zs ≡ suc (length (y ∷ ys)))
    (λ _. refl) (λ _. omega (arith, length_insert key x ys))

pub length_insert_all : (qs os : List ℕ) → length (insert_all qs os) ≡ length qs + length os
length_insert_all [] os = omega arith
length_insert_all (q ∷ qs) os = omega (arith, length_insert (λ s. s) q (insert_all qs os), length_insert_all qs os)

pub all_insert_all : {P : ℕ → Type 0} (qs os : List ℕ) → All P qs → All P os → All P (insert_all qs os)
all_insert_all [] os h k = k
all_insert_all (q ∷ qs) os h k = all_insert (λ s. s) q (insert_all qs os) (head h) (all_insert_all qs os (tail h) k)

pub only_yes : (b : Bool) (n : ℕ) → b ≡ true → only b n ≡ n
only_yes b n e = cond-true b n 0 e

pub only_no : (b : Bool) (n : ℕ) → b ≡ false → only b n ≡ 0
only_no b n e = cond-false b n 0 e

pub only_at_most : (b : Bool) (n : ℕ) → only b n ≤ n
only_at_most true n = omega arith
only_at_most false n = omega arith

pub only_mono : (b : Bool) (m n : ℕ) → m ≤ n → only b m ≤ only b n
only_mono true m n h = h
only_mono false m n h = omega arith

-- the last entry of a rising list is the greatest, and stands in it
pub final_greatest : (d : ℕ) (qs : List ℕ) → Rising (λ s. s) (d ∷ qs) → All (λ q. q ≤ final d qs) (d ∷ qs)
final_greatest d [] h = more (omega arith) none
final_greatest d (q ∷ qs) h =
    let ih = final_greatest q qs h.1 in
    more (omega (arith, head ih, head h.0)) ih

pub final_all : {P : ℕ → Type 0} (d : ℕ) (qs : List ℕ) → All P (d ∷ qs) → P (final d qs)
final_all d [] h = head h
final_all d (q ∷ qs) h = final_all q qs (tail h)

pub final_there : (d : ℕ) (qs : List ℕ) → 1 ≤ total (λ q. only (eqb q (final d qs)) 1) (d ∷ qs)
final_there d [] = grind (arith, nat_tests)
final_there d (q ∷ qs) = omega (arith, final_there q qs)

pub rising_insert_all :
    (qs os : List ℕ) → Rising (λ s. s) qs → All (λ q. All (λ o. o ≡ q → ⊥) os) qs → Rising (λ s. s) os → Rising (λ s. s) (insert_all qs os)
rising_insert_all [] os r d h = h
rising_insert_all (q ∷ qs) os r d h =
    rising_insert (λ s. s) q (insert_all qs os)
    (all_insert_all qs os (all_map r.0 (λ o l e. omega arith)) (head d)) (rising_insert_all qs os r.1 (tail d) h)

-- each entry counts in the sum that is taken for it
pub total_each : {X : Type 0} (f : X → X → ℕ) (xs : List X) → All (λ x. f x x ≤ total (f x) xs) xs
total_each f [] = none
total_each f (x ∷ xs) = more (omega arith) (all_map (total_each f xs) (λ y l. omega arith))
