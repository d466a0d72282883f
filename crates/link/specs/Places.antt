-- Where a number first stands in a list of things that have one. Assumes nothing.
use Rattle.std.specs.Prelude.{◌≡◌, ℕ, ◌<◌, List, length, ◌≢◌, slice_index_or}

module _ {X : Type 0} (number_of : X → ℕ) where
  -- no entry has the number
  abbrev pub Nowhere : ℕ → List X → Type 0
  Nowhere number xs = (k : ℕ) (d : X) → k < length xs → number_of (slice_index_or xs k d) ≢ number

  -- the first entry that has it stands at i
  pub record At (number : ℕ) (xs : List X) (i : ℕ) : Type 0 where
    pub within : i < length xs
    pub here : (d : X) → number_of (slice_index_or xs i d) ≡ number
    pub before : (k : ℕ) (d : X) → k < i → number_of (slice_index_or xs k d) ≢ number
