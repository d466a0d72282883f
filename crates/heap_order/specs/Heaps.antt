-- A binary heap in a list, under the test `before` of an order. Assumes nothing.
use Rattle.std.specs.Prelude.{◌≡◌, ℕ, ◌-◌, ◌/◌, ◌<◌, Bool, false, List, length, ◌≢◌, slice_index_or}

-- the place of the parent of the element at k; the first element has none
abbrev pub parent : ℕ → ℕ
parent k = (k - 1) / 2

-- what a heap shows: its elements as they lie, and for how many there is memory
pub record Held (X : Type 0) : Type 0 where
  pub items : List X
  pub capacity : ℕ

module _ {X : Type 0} (before : X → X → Bool) where
  -- a heap: no element is before its parent
  abbrev pub Heaped : List X → Type 0
  Heaped xs = (k : ℕ) (d : X) → 0 < k → k < length xs → before (slice_index_or xs k d) (slice_index_or xs (parent k) d) ≡ false

  -- the same with one element d for what stands past the end, as an invariant may have it
  abbrev pub HeapedAt : X → List X → Type 0
  HeapedAt d xs = (k : ℕ) → 0 < k → k < length xs → before (slice_index_or xs k d) (slice_index_or xs (parent k) d) ≡ false

  -- no element is before the first
  abbrev pub FirstLeast : List X → Type 0
  FirstLeast xs = (k : ℕ) (d : X) → k < length xs → before (slice_index_or xs k d) (slice_index_or xs 0 d) ≡ false

  -- no child of the element at j is before the parent of j
  abbrev pub Spanned : List X → ℕ → Type 0
  Spanned xs j = (k : ℕ) (d : X) → 0 < j → k < length xs → parent k ≡ j → before (slice_index_or xs k d) (slice_index_or xs (parent j) d) ≡ false

  -- a heap, but that the element at j may be before its parent
  abbrev pub Loose : List X → ℕ → Type 0
  Loose xs j = ((k : ℕ) (d : X) → 0 < k → k < length xs → (k ≢ j) → before (slice_index_or xs k d) (slice_index_or xs (parent k) d) ≡ false) × Spanned xs j

  -- a heap, but that a child of the element at j may be before it
  abbrev pub Heavy : List X → ℕ → Type 0
  Heavy xs j = ((k : ℕ) (d : X) → 0 < k → k < length xs → (parent k ≢ j) → before (slice_index_or xs k d) (slice_index_or xs (parent k) d) ≡ false) × Spanned xs j

  -- no child of the element at j is before the one at c
  abbrev pub LeastChild : List X → ℕ → ℕ → Type 0
  LeastChild xs j c = (k : ℕ) (d : X) → 0 < k → k < length xs → parent k ≡ j → before (slice_index_or xs k d) (slice_index_or xs c d) ≡ false
