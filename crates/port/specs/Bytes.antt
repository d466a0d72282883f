-- Records as bytes: numbers of eight bytes each, the lowest byte first. Assumes nothing.
use Rattle.std.specs.Prelude.{ℕ, ◌+◌, ◌*◌, ◌/◌, ◌%◌, List, [], ◌∷◌, ◌++◌, slice_index}
use Rattle.std.specs.Int.{w64, cast_unsigned}
use Rattle.port.specs.declared.records.CallRecord.{CallRecord}
use Rattle.port.specs.declared.records.AnswerRecord.{AnswerRecord}

-- the number whose bytes begin at a place
abbrev pub word : List ℕ → ℕ → ℕ
word bs at =
    slice_index bs at + slice_index bs (at + 1) * 256 + slice_index bs (at + 2) * 65536 + slice_index bs (at + 3) * 16777216 + slice_index bs (at + 4) * 4294967296 + slice_index bs (at + 5) * 1099511627776 + slice_index bs (at + 6) * 281474976710656
    + slice_index bs (at + 7) * 72057594037927936

-- a call's four numbers
abbrev pub call_from : List ℕ → CallRecord
call_from bs = record { kind = word bs 0; a = word bs 8; b = word bs 16; c = word bs 24 }

-- the bytes of a number
abbrev pub eight : ℕ → List ℕ
eight x = (x % 256) ∷ (x / 256 % 256) ∷ (x / 65536 % 256) ∷ (x / 16777216 % 256) ∷ (x / 4294967296 % 256) ∷ (x / 1099511627776 % 256) ∷ (x / 281474976710656 % 256) ∷ (x / 72057594037927936 % 256) ∷ []

-- the bytes of numbers, one after the other
abbrev pub all_bytes : List ℕ → List ℕ
all_bytes [] = []
all_bytes (x ∷ xs) = eight x ++ all_bytes xs

-- an answer's nine numbers: its kind, its lead by two's complement, its values
abbrev pub words_of : AnswerRecord → List ℕ
words_of r = r.kind ∷ cast_unsigned w64 r.lead ∷ slice_index r.values 0 ∷ slice_index r.values 1 ∷ slice_index r.values 2 ∷ slice_index r.values 3 ∷ slice_index r.values 4 ∷ slice_index r.values 5 ∷ slice_index r.values 6 ∷ []
