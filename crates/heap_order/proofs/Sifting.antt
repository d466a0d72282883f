-- One step of a sift, and the first of a heap as its least. Assumes nothing.
use Rattle.std.proofs.Common.{◌≡◌, ℕ, zero, suc, ◌+◌, ◌*◌, ◌<◌, ◌≤◌, Bool, true, false, List, length, get_or, refl, ap, ◌∙◌, ⊎_elim, arith}
use Rattle.std.proofs.lemmas.List.{get_or_default}
use Rattle.std.proofs.lemmas.Bool.{cases_eq}
use Rattle.heap_order.specs.Heaps.{parent, Heaped, HeapedAt, FirstLeast, Loose, Heavy, LeastChild}

-- a list after an exchange of the elements at a and b
pub record Swap {X : Type 0} (xs ys : List X) (a b : ℕ) : Type 0 where
  pub long : length ys ≡ length xs
  pub one : (d : X) → get_or ys a d ≡ get_or xs b d
  pub two : (d : X) → get_or ys b d ≡ get_or xs a d
  pub other : (k : ℕ) (d : X) → (k ≡ a → ⊥) → (k ≡ b → ⊥) → get_or ys k d ≡ get_or xs k d

-- what `swap` says, by its four places
pub swap_of : {X : Type 0} {xs ys : List X} {a b : ℕ} → length ys ≡ length xs → ((d : X) → get_or ys a d ≡ get_or xs b d) → ((d : X) → get_or ys b d ≡ get_or xs a d) → ((k : ℕ) (d : X) → (k ≡ a → ⊥) → (k ≡ b → ⊥) → get_or ys k d ≡ get_or xs k d) → Swap xs ys a b
swap_of l p q r = record { long = l; one = p; two = q; other = r }

at : {X : Type 0} (xs : List X) (d : X) (k j : ℕ) → k ≡ j → get_or xs k d ≡ get_or xs j d
at xs d k j e = ap (λ m. get_or xs m d) e

-- a heap read at one default is a heap
pub heaped_from : {X : Type 0} (before : X → X → Bool) (e : X) (xs : List X) → HeapedAt before e xs → Heaped before xs
heaped_from before e xs h k d lo l = (λ i. before (get_or_default xs k d e l i) (get_or_default xs (parent k) d e (omega arith) i)) ∙ h k lo l

pub heaped_at : {X : Type 0} (before : X → X → Bool) (e : X) (xs : List X) → Heaped before xs → HeapedAt before e xs
heaped_at before e xs h k lo l = h k e lo l

module _ {X : Type 0} (before : X → X → Bool)
    (total : (x y : X) → before x y ≡ true → before y x ≡ false)
    (transitive : (x y z : X) → before x y ≡ false → before y z ≡ false → before x z ≡ false) where
  by : (a b x y : X) → a ≡ x → b ≡ y → before x y ≡ false → before a b ≡ false
  by a b x y p q h = (λ k. before (p k) (q k)) ∙ h

  never : (x : X) (b : Bool) → before x x ≡ b → before x x ≡ false
  never x true e = total x x e
  never x false e = e

  -- the element at j is not before its parent
  pub rests : (xs : List X) (j : ℕ) → ((d : X) → before (get_or xs j d) (get_or xs (parent j) d) ≡ false) → Loose before xs j → Heaped before xs
  rests xs j t h k d lo f = ⊎_elim
      (λ e. by _ _ _ _ (at xs d k j e) (at xs d (parent k) (parent j) (ap parent e)) (t d))
      (λ n. h.0 k d lo f n) (cases_eq k j)

  -- the element at j rose to its parent's place
  pub rises : (xs ys : List X) (j : ℕ) → 0 < j → j < length xs → Swap xs ys (parent j) j → ((d : X) → before (get_or xs j d) (get_or xs (parent j) d) ≡ true) → Loose before xs j → Loose before ys (parent j)
  rises xs ys j pos in' s t h = (
    λ k d lo f n. ⊎_elim
        (λ e. ⊎_elim
        -- what came down, under the element that rose
        (λ v. by _ _ _ _ (at ys d k j v ∙ s.two d) (at ys d (parent k) (parent j) e ∙ s.one d) (total _ _ (t d)))
        -- the other child
        (λ v. by _ _ _ _ (s.other k d n v) (at ys d (parent k) (parent j) e ∙ s.one d) (transitive _ _ _ (by _ _ _ _ refl (at xs d (parent j) (parent k) (omega arith)) (h.0 k d lo (omega (arith, s.long)) v)) (total _ _ (t d))))
        (cases_eq k j))
        (λ v. ⊎_elim
        (λ e. by _ _ _ _ (s.other k d n (omega arith)) (at ys d (parent k) j e ∙ s.two d) (h.1 k d pos (omega (arith, s.long)) e))
        (λ w. let m : k ≡ j → ⊥ = λ e. v (ap parent e) in by _ _ _ _ (s.other k d n m) (s.other (parent k) d v w) (h.0 k d lo (omega (arith, s.long)) m))
        (cases_eq (parent k) j))
        (cases_eq (parent k) (parent j)),
    λ k d up f e.
        let over = h.0 (parent j) d up (omega arith) (omega arith) in
        let same = s.other (parent (parent j)) d (omega arith) (omega arith) in
        ⊎_elim
        (λ v. by _ _ _ _ (at ys d k j v ∙ s.two d) same over)
        (λ w. by _ _ _ _ (s.other k d (omega arith) w) same (transitive _ _ _ (by _ _ _ _ refl (at xs d (parent j) (parent k) (omega arith)) (h.0 k d (omega arith) (omega (arith, s.long)) w)) over))
        (cases_eq k j),
  )

  -- the least child is not before the element at j
  pub lies : (xs : List X) (j c : ℕ) → LeastChild before xs j c → ((d : X) → before (get_or xs c d) (get_or xs j d) ≡ false) → Heavy before xs j → Heaped before xs
  lies xs j c best t h k d lo f = ⊎_elim
      (λ e. by _ _ _ _ refl (at xs d (parent k) j e) (transitive _ _ _ (best k d lo f e) (t d)))
      (λ n. h.0 k d lo f n) (cases_eq (parent k) j)

  -- the element at j sank to its least child's place
  pub sinks : (xs ys : List X) (j c : ℕ) → 0 < c → parent c ≡ j → c < length xs → Swap xs ys j c → LeastChild before xs j c → ((d : X) → before (get_or xs c d) (get_or xs j d) ≡ true) → Heavy before xs j → Heavy before ys c
  sinks xs ys j c pos under in' s best t h = (
    λ k d lo f n. ⊎_elim
        (λ e. ⊎_elim
        (λ v. by _ _ _ _ (at ys d k c v ∙ s.two d) (at ys d (parent k) j e ∙ s.one d) (total _ _ (t d)))
        (λ v. by _ _ _ _ (s.other k d (omega arith) v) (at ys d (parent k) j e ∙ s.one d) (best k d lo (omega (arith, s.long)) e))
        (cases_eq k c))
        (λ v. ⊎_elim
        (λ e. by _ _ _ _ (at ys d k j e ∙ s.one d) (s.other (parent k) d v n ∙ at xs d (parent k) (parent j) (ap parent e)) (h.1 c d (omega arith) in' under))
        (λ w. by _ _ _ _ (s.other k d w (λ e. v (ap parent e ∙ under))) (s.other (parent k) d v n) (h.0 k d lo (omega (arith, s.long)) v))
        (cases_eq k j))
        (cases_eq (parent k) j),
    λ k d up f e. by _ _ _ _ (s.other k d (omega arith) (omega arith)) (at ys d (parent c) j under ∙ s.one d) (by _ _ _ _ refl (at xs d c (parent k) (omega arith)) (h.0 k d (omega arith) (omega (arith, s.long)) (omega arith))),
  )

  -- a child that the other is not before is the least
  pub left_least : (xs : List X) (j c : ℕ) → c ≡ j * 2 + 1 → (c + 1 < length xs → (d : X) → before (get_or xs (c + 1) d) (get_or xs c d) ≡ false) → LeastChild before xs j c
  left_least xs j c e t k d lo f p = ⊎_elim
      (λ e. by _ _ _ _ (at xs d k c e) refl (never _ _ refl))
      (λ n. by _ _ _ _ (at xs d k (c + 1) (omega arith)) refl (t (omega arith) d)) (cases_eq k c)

  pub right_least : (xs : List X) (j c : ℕ) → c ≡ j * 2 + 1 → ((d : X) → before (get_or xs (c + 1) d) (get_or xs c d) ≡ true) → LeastChild before xs j (c + 1)
  right_least xs j c e t k d lo f p = ⊎_elim
      (λ e. by _ _ _ _ (at xs d k (c + 1) e) refl (never _ _ refl))
      (λ n. by _ _ _ _ (at xs d k c (omega arith)) refl (total _ _ (t d))) (cases_eq k (c + 1))

  first_within : (xs : List X) → Heaped before xs → (fuel k : ℕ) (d : X) → k ≤ fuel → k < length xs → before (get_or xs k d) (get_or xs 0 d) ≡ false
  first_within xs h zero k d a b = by _ _ _ _ (at xs d k 0 (omega arith)) refl (never _ _ refl)
  first_within xs h (suc fuel) zero d a b = never _ _ refl
  first_within xs h (suc fuel) (suc k) d a b = transitive _ _ _ (h (suc k) d (omega arith) b) (first_within xs h fuel (parent (suc k)) d (omega arith) (omega arith))

  -- no element of a heap is before the first
  pub first_least : (xs : List X) → Heaped before xs → FirstLeast before xs
  first_least xs h k d l = first_within xs h k k d (omega arith) l
