-- The paths of files. ETSI TS 102 221, 8.4.2.
use Rattle.std.specs.Prelude.{ℕ, ◌+◌, ◌-◌, ◌*◌, nat_lt, if◌then◌else◌, Option, Some, None, slice_index, List, [], ◌∷◌, ◌++◌, length, take, slice_index_or}

-- the identifier of the file with this path; that of the MF is 3F00 (8.6)
abbrev pub id_of : List ℕ → ℕ
id_of path = slice_index_or path (length path - 1) 0x3F00

-- the path of the folder that a file lies in; the MF lies in itself
abbrev pub above : List ℕ → List ℕ
above path = take (length path - 1) path

-- the path of the file with this identifier in a folder; no file lies more than four deep
abbrev pub child_of : List ℕ → ℕ → Option (List ℕ)
child_of folder id = if nat_lt (length folder) 4 then Some (folder ++ id ∷ []) else None

-- two octets as a number
abbrev pub word_at : List ℕ → ℕ → ℕ
word_at octets at = 256 * slice_index octets at + slice_index octets (at + 1)

-- identifiers in their order, two octets each
abbrev pub ids_of : List ℕ → List ℕ
ids_of [] = []
ids_of (high ∷ []) = []
ids_of (high ∷ low ∷ octets) = (256 * high + low) ∷ ids_of octets
