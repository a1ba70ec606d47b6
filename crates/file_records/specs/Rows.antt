-- The records of a file. ETSI TS 102 221, 8.2.2.2 and 8.2.2.3.
use Rattle.std.specs.Prelude.{ℕ, zero, suc, List, [], ◌∷◌, ◌++◌, take, drop}

-- the octets of a record, and the records in the order of their numbers
pub record Rows : Type 0 where
  pub width : ℕ
  pub rows : List (List ℕ)

-- the first `count` records of a buffer
abbrev pub rows_in : ℕ → ℕ → List ℕ → List (List ℕ)
rows_in width zero octets = []
rows_in width (suc count) octets = take width octets ∷ rows_in width count (drop width octets)

-- records that begin at the place `first` of a table, and go on at its front
abbrev pub turned : ℕ → List (List ℕ) → List (List ℕ)
turned first rows = drop first rows ++ take first rows
