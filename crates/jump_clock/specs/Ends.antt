-- The order of the busy sessions, by the slot in which each runs dry. Assumes nothing.
use Rattle.std.specs.Prelude.{ℕ, ◌<◌, ◌≤◌, Bool, List, length, nat_lt, slice_index_or}
use Rattle.heap_order.specs.Heaps.{parent}
use Rattle.jump_clock.specs.declared.dry.Dry.{Dry}

-- what stands past a list's end
abbrev pub blank : Dry
blank = record { end = 0; session = 0 }

-- x runs dry before y
abbrev pub by_end : Dry → Dry → Bool
by_end x y = nat_lt x.end y.end

-- none runs dry before its parent
abbrev pub Ordered : List Dry → Type 0
Ordered xs = (k : ℕ) → 0 < k → k < length xs → (slice_index_or xs (parent k) blank).end ≤ (slice_index_or xs k blank).end
