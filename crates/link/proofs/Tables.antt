-- The table of waiting packets, in the order of their numbers. Assumes nothing.
use Rattle.std.proofs.Common.{◌≡◌, ℕ, zero, suc, ◌+◌, ◌<◌, cond, ltb, List, [], ◌∷◌, ◌++◌, length, get_or, refl, ap, ◌∙◌, arith}
use Rattle.std.proofs.lemmas.Bool.{cond_both, cond-true, cond-false, lt-ltb, le-ltb}
use Rattle.std.specs.List.{remove}
use Rattle.tick_machine.specs.declared.packet.Packet.{Packet}
use Rattle.tick_machine.specs.Lists.{total, All, none, more, insert}
use Rattle.tick_machine.proofs.Lists.{head, tail, all_insert, total_insert, length_insert}
use Rattle.link.specs.Places.{At, Nowhere}
use Rattle.link.specs.Shown.{by_number}

abbrev pub number : Packet → ℕ
number p = p.number

pub all_by_number : {P : Packet → Type 0} (ws : List Packet) → All P ws → All P (by_number ws)
all_by_number [] h = none
all_by_number (p ∷ ws) h = all_insert number p (by_number ws) (head h) (all_by_number ws (tail h))

pub total_by_number : (f : Packet → ℕ) (ws : List Packet) → total f (by_number ws) ≡ total f ws
total_by_number f [] = refl
total_by_number f (p ∷ ws) = total_insert number f p (by_number ws) ∙ ap (λ n. f p + n) (total_by_number f ws)

-- a list of no entries
pub none_there : {X : Type 0} (xs : List X) → length xs ≡ 0 → xs ≡ []
none_there [] h = refl
none_there (x ∷ xs) h = absurd (omega arith)

pub by_number_length : (ws : List Packet) → length (by_number ws) ≡ length ws
by_number_length [] = refl
by_number_length (p ∷ ws) = length_insert number p (by_number ws) ∙ ap suc (by_number_length ws)

-- the highest number goes to the end
insert_last : (p : Packet) (xs : List Packet) → All (λ q. q.number < p.number) xs → insert number p xs ≡ xs ++ p ∷ []
insert_last p [] h = refl
insert_last p (x ∷ xs) (more h t) = cond-false (ltb (number p) (number x)) (p ∷ x ∷ xs) (x ∷ insert number p xs) (le-ltb _ _ (omega arith)) ∙ ap (λ ys. x ∷ ys) (insert_last p xs t)

-- a lower number goes before it
insert_before : (p y : Packet) (xs : List Packet) → y.number < p.number → insert number y (xs ++ p ∷ []) ≡ insert number y xs ++ p ∷ []
insert_before p y [] l = cond-true (ltb (number y) (number p)) (y ∷ p ∷ []) (p ∷ y ∷ []) (lt-ltb _ _ l)
insert_before p y (x ∷ xs) l =
    cond_both (ltb (number y) (number x)) (y ∷ x ∷ xs) (x ∷ insert number y xs) (λ ys. cond (ltb (number y) (number x)) (y ∷ x ∷ (xs ++ p ∷ [])) (x ∷ insert number y (xs ++ p ∷ [])) ≡ ys ++ p ∷ [])
    (λ e. cond-true _ _ _ e)
    (λ e. cond-false _ _ _ e ∙ ap (λ ys. x ∷ ys) (insert_before p y xs l))

-- a packet that is accepted comes to the end of the table
pub by_number_accepted : (p : Packet) (ws : List Packet) → All (λ q. q.number < p.number) ws → by_number (insert (λ q. q.stamp) p ws) ≡ by_number ws ++ p ∷ []
by_number_accepted p [] h = refl
by_number_accepted p (y ∷ ws) h =
    cond_both (ltb p.stamp y.stamp) (p ∷ y ∷ ws) (y ∷ insert (λ q. q.stamp) p ws) (λ vs. by_number vs ≡ by_number (y ∷ ws) ++ p ∷ [])
    (λ _. insert_last p (by_number (y ∷ ws)) (all_by_number (y ∷ ws) h))
    (λ _. ap (insert number y) (by_number_accepted p ws (tail h)) ∙ insert_before p y (by_number ws) (head h))

absent : (p : Packet) (ys : List Packet) (k : ℕ) (d : Packet) → All (λ q. q.number ≡ p.number → ⊥) ys → k < length ys → (get_or ys k d).number ≡ p.number → ⊥
absent p [] k d a l e = omega arith
absent p (y ∷ ys) zero d a l e = head a e
absent p (y ∷ ys) (suc k) d a l e = absent p ys k d (tail a) (omega arith) e

-- p stands at i, and xs is left when it is taken out
abbrev Stands : Packet → List Packet → List Packet → ℕ → Packet → Type 0
Stands p ys xs i d = i < length ys → (get_or ys i d).number ≡ p.number → (get_or ys i d ≡ p) × (remove ys i ≡ xs)

stands_first : (p : Packet) (xs : List Packet) (i : ℕ) (d : Packet) → All (λ q. q.number ≡ p.number → ⊥) xs → Stands p (p ∷ xs) xs i d
stands_first p xs zero d h l e = (refl, refl)
stands_first p xs (suc i) d h l e = absurd (absent p xs i d h (omega arith) e)

stands_later : (p x : Packet) (ys xs : List Packet) (i : ℕ) (d : Packet) → (x.number ≡ p.number → ⊥) → ((k : ℕ) → Stands p ys xs k d) → Stands p (x ∷ ys) (x ∷ xs) i d
stands_later p x ys xs zero d h f l e = absurd (h e)
stands_later p x ys xs (suc i) d h f l e = let it = f i (omega arith) e in (it.0, ap (λ zs. x ∷ zs) it.1)

-- what stands under a packet's number is that packet, and the others are left when it is taken out
found : (p : Packet) (xs : List Packet) (d : Packet) → All (λ q. q.number ≡ p.number → ⊥) xs → (i : ℕ) → Stands p (insert number p xs) xs i d
found p [] d h i = stands_first p [] i d h
found p (x ∷ xs) d h i =
    cond_both (ltb (number p) (number x)) (p ∷ x ∷ xs) (x ∷ insert number p xs) (λ ys. Stands p ys (x ∷ xs) i d)
    (λ _. stands_first p (x ∷ xs) i d h)
    (λ _. stands_later p x (insert number p xs) xs i d (head h) (found p xs d (tail h)))

pub by_number_found : (p : Packet) (ws : List Packet) (i : ℕ) (d : Packet) → All (λ q. q.number ≡ p.number → ⊥) ws → At number p.number (by_number (p ∷ ws)) i
    → (get_or (by_number (p ∷ ws)) i d ≡ p) × (remove (by_number (p ∷ ws)) i ≡ by_number ws)
by_number_found p ws i d h a = found p (by_number ws) d (all_by_number ws h) i a.within (a.here d)

-- and it does stand there
there : (p : Packet) (xs : List Packet) (d : Packet) → ((k : ℕ) → k < length (insert number p xs) → (get_or (insert number p xs) k d).number ≡ p.number → ⊥) → ⊥
there p [] d h = h 0 (omega arith) refl
there p (x ∷ xs) d h =
    cond_both (ltb (number p) (number x)) (p ∷ x ∷ xs) (x ∷ insert number p xs)
    (λ ys. ((k : ℕ) → k < length ys → (get_or ys k d).number ≡ p.number → ⊥) → ⊥)
    (λ _ f. f 0 (omega arith) refl)
    (λ _ f. there p xs d (λ k l e. f (suc k) (omega arith) e)) h

pub by_number_there : (p : Packet) (ws : List Packet) → Nowhere number p.number (by_number (p ∷ ws)) → ⊥
by_number_there p ws h = there p (by_number ws) p (λ k. h k p)
