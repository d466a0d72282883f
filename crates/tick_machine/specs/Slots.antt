-- Slots, the positions of a round, and who owns them. A link's weights are the list ws, session 0 first. Assumes nothing.
use Rattle.std.specs.Prelude.{◌≡◌, ℕ, zero, suc, ◌-◌, ◌%◌, ◌<◌, Bool, cond, List, [], ◌∷◌, length, nat_eq, nat_lt, slice_index}
use Rattle.tick_machine.specs.Lists.{total, count}

-- the number of slots in a round: the sum of the weights
abbrev pub round_length : List ℕ → ℕ
round_length ws = total (λ w. w) ws

-- the session that owns a position: session 0 the first positions, as many as its weight, session 1 the next ones, and so on
unfoldable pub holder : List ℕ → ℕ → ℕ
holder [] p = 0
holder (w ∷ ws) p = cond (nat_lt p w) 0 (suc (holder ws (p - w)))

-- the session that owns a slot: the owner of its position, which is the remainder of its number
abbrev pub owner : List ℕ → ℕ → ℕ
owner ws q = holder ws (q % round_length ws)

-- What is used of ownership: these two facts and nothing else.
-- Each position has one owner, a session of the link.
abbrev pub EachPositionHasOneOwner : Type 0
EachPositionHasOneOwner = (ws : List ℕ) (p : ℕ) → p < round_length ws → holder ws p < length ws

-- Each session owns as many positions as its weight.
abbrev pub EachSessionOwnsItsWeight : Type 0
EachSessionOwnsItsWeight = (ws : List ℕ) (i : ℕ) → i < length ws → count (λ p. nat_eq (holder ws p) i) (round_length ws) ≡ slice_index ws i

-- the lowest slot from q on that passes the test, looked for among so many
abbrev pub lowest : (ℕ → Bool) → ℕ → ℕ → ℕ
lowest test zero q = q
lowest test (suc k) q = cond (test q) q (lowest test k (suc q))

-- the n lowest slots from q on that pass the test, each looked for among so many
abbrev pub slots : (ℕ → Bool) → ℕ → ℕ → ℕ → List ℕ
slots test among zero q = []
slots test among (suc n) q = lowest test among q ∷ slots test among n (suc (lowest test among q))

-- the n lowest slots of session i that are not below q; from any slot on, a session has one within a round
abbrev pub own_slots : List ℕ → ℕ → ℕ → ℕ → List ℕ
own_slots ws i n q = slots (λ s. nat_eq (owner ws s) i) (round_length ws) n q
