-- Octets as a number, and the numbers of records.
use Rattle.std.specs.Prelude.{ℕ, zero, suc, ◌+◌, ◌*◌, ◌/◌, ◌%◌, ◌^◌, ◌<◌, slice_index, nat_eq, nat_lt, Option, Some, None, if◌then◌else◌, List, [], ◌∷◌, length}
use Rattle.std.specs.List.{starts_with}

abbrev pub AreOctets : List ℕ → Type 0
AreOctets octets = (i : ℕ) → slice_index octets i < 256

-- octets as a number, the highest first
abbrev pub number_of : List ℕ → ℕ
number_of [] = 0
number_of (octet ∷ octets) = octet * 256 ^ length octets + number_of octets

-- a number in so many octets, the highest first
abbrev pub octets_with : ℕ → ℕ → List ℕ
octets_with zero number = []
octets_with (suc count) number = number / 256 ^ count ∷ octets_with count (number % 256 ^ count)

-- the octets of a record with a number added; none, where they don't hold the sum
abbrev pub sum_in : List ℕ → ℕ → Option (List ℕ)
sum_in row by =
    let sum = number_of row + by in
    if nat_lt sum (256 ^ length row) then Some (octets_with (length row) sum) else None

-- the numbers of the records that begin with a pattern, where the first one has this number
abbrev pub numbers_with : List ℕ → ℕ → List (List ℕ) → List ℕ
numbers_with pattern number [] = []
numbers_with pattern number (row ∷ rows) =
    if starts_with nat_eq row pattern then number ∷ numbers_with pattern (suc number) rows
    else numbers_with pattern (suc number) rows
