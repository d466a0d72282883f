-- The busy sessions in a heap, by the slot in which each runs dry. Assumes nothing.
use Rattle.std.specs.Prelude.{◌≡◌, ℕ, suc, ◌+◌, List, [], ◌∷◌, ◌==◌, nat_lt}
use Rattle.tick_machine.specs.Lists.{total, only}
use Rattle.slot_clock.specs.State.{SlotState}
use Rattle.jump_clock.specs.declared.dry.Dry.{Dry}
use Rattle.jump_clock.specs.declared.dry.Busy.{Busy}

-- the elements of the heap
abbrev pub items : Busy → List Dry
items b = b.places.items

-- a sum over the busy sessions, from the number i on
abbrev pub over_busy : (Dry → ℕ) → ℕ → ℕ → List ℕ → ℕ
over_busy f v i [] = 0
over_busy f v i (n ∷ ns) = only (nat_lt v n) (f (record { end = n; session = i })) + over_busy f v (suc i) ns

-- the heap has each busy session once, and nothing else
abbrev pub Holds : List Dry → ℕ → List ℕ → Type 0
Holds xs v next = (f : Dry → ℕ) → total f xs ≡ over_busy f v 0 next

-- the elements xs became ys: x left and y came
abbrev pub Traded : List Dry → Dry → Dry → List Dry → Type 0
Traded xs x y ys = (f : Dry → ℕ) → total f ys + f x ≡ total f xs + f y

-- y came
abbrev pub Gained : List Dry → Dry → List Dry → Type 0
Gained xs y ys = (f : Dry → ℕ) → total f ys ≡ total f xs + f y

-- x left
abbrev pub Lost : List Dry → Dry → List Dry → Type 0
Lost xs x ys = (f : Dry → ℕ) → total f ys + f x ≡ total f xs

-- how many sessions are busy
abbrev pub busy_sessions : SlotState → ℕ
busy_sessions s = total (λ n. only (nat_lt s.cursor n) 1) s.next

-- 1 if no session's next is v, else 0
abbrev pub missed : ℕ → List ℕ → ℕ
missed v next = only (total (λ n. only (n == v) 1) next == 0) 1

-- 1 if V has moved from c to v and the slot served last was not its session's last, else 0
abbrev pub halfway : ℕ → ℕ → List ℕ → ℕ
halfway c v next = only (nat_lt c v) (missed v next)
