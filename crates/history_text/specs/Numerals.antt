-- How a number is read: decimal, with no leading zero unless it is 0 itself, below 2 ^ 64. Assumes nothing.
use Rattle.std.specs.Prelude.{ℕ, ◌+◌, ◌-◌, ◌*◌, ◌^◌, Bool, true, cond, ◌&&◌, ◌||◌, List, [], ◌∷◌, length, Some, None, Option, ◌==◌, nat_le, nat_lt, slice_index}

-- a byte from 0 to 9
abbrev pub digit : ℕ → Bool
digit x = nat_le 48 x && nat_le x 57

abbrev pub digits : List ℕ → Bool
digits [] = true
digits (x ∷ xs) = digit x && digits xs

-- the number that the digits write after those that wrote n
abbrev pub value : ℕ → List ℕ → ℕ
value n [] = n
value n (x ∷ xs) = value (n * 10 + (x - 48)) xs

-- the same, if they are digits and it is below 2 ^ 64
abbrev pub amount : ℕ → List ℕ → Option ℕ
amount n xs = cond (digits xs && nat_lt (value n xs) (2 ^ 64)) (Some (value n xs)) None

-- no byte at all, or a zero before other bytes
abbrev pub ill_formed : List ℕ → Bool
ill_formed xs = length xs == 0 || (nat_lt 1 (length xs) && slice_index xs 0 == 48)

-- the number that the bytes write, if they write one
unfoldable pub numeral : List ℕ → Option ℕ
numeral xs = cond (ill_formed xs) None (amount 0 xs)
