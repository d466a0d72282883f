-- Words on lists: a sum over a list, what holds of each entry, a list in rising order of a key. Assumes nothing.
use Rattle.std.specs.Prelude.{ℕ, zero, suc, ◌+◌, ◌<◌, Bool, cond, List, [], ◌∷◌, nat_lt}

-- the sum of f over the list
abbrev pub total : {X : Type 0} → (X → ℕ) → List X → ℕ
total f [] = 0
total f (x ∷ xs) = f x + total f xs

-- n if the test passes, else 0
abbrev pub only : Bool → ℕ → ℕ
only b n = cond b n 0

-- how many numbers below n pass the test
abbrev pub count : (ℕ → Bool) → ℕ → ℕ
count test zero = 0
count test (suc n) = count test n + only (test n) 1

-- P holds of each entry
pub data All {X : Type 0} (P : X → Type 0) : List X → Type 0 where
  none : All P []
  more : {x : X} {xs : List X} → P x → All P xs → All P (x ∷ xs)

-- the keys rise from each entry to all later ones
abbrev pub Rising : {X : Type 0} → (X → ℕ) → List X → Type 0
Rising key [] = Unit {0}
Rising key (x ∷ xs) = All (λ y. key x < key y) xs × Rising key xs

-- x put into a list that is in rising order of the key, at its place
abbrev pub insert : {X : Type 0} → (X → ℕ) → X → List X → List X
insert key x [] = x ∷ []
insert key x (y ∷ ys) = cond (nat_lt (key x) (key y)) (x ∷ y ∷ ys) (y ∷ insert key x ys)

-- every number of the first list put into the second, which is in rising order
abbrev pub insert_all : List ℕ → List ℕ → List ℕ
insert_all [] ys = ys
insert_all (x ∷ xs) ys = insert (λ s. s) x (insert_all xs ys)

-- the last entry, d if there is none
abbrev pub final : ℕ → List ℕ → ℕ
final d [] = d
final d (x ∷ xs) = final x xs
