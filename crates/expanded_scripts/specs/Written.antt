-- Tagged values and command scripts as they are written, each length in its least form. ETSI TS 102 226, 5.2.2.
use Rattle.std.specs.Prelude.{ℕ, ◌/◌, ◌%◌, nat_lt, if◌then◌else◌, List, [], ◌∷◌, ◌++◌, length, flat_map}

-- the least form of a length below 2^24
unfoldable pub least_length : ℕ → List ℕ
least_length number =
    if nat_lt number 0x80 then number ∷ []
    else if nat_lt number 0x100 then 0x81 ∷ number ∷ []
    else if nat_lt number 0x10000 then 0x82 ∷ number / 256 ∷ number % 256 ∷ []
    else 0x83 ∷ number / 65536 ∷ number / 256 % 256 ∷ number % 256 ∷ []

-- a tag, the length of the value, and the value
abbrev pub element : ℕ → List ℕ → List ℕ
element tag value = tag ∷ least_length (length value) ++ value

-- the command script of these plain forms
abbrev pub written : List (List ℕ) → List ℕ
written commands = element 0xAA (flat_map (element 0x22) commands)
