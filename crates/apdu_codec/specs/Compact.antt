-- The compact response. ETSI TS 102 226, 5.2.1.2.
use Rattle.std.specs.Prelude.{ℕ, min, ◌/◌, ◌%◌, List, ◌∷◌}

-- the number of commands executed, at most 255; the status word, high octet first; the data
abbrev pub compact_response_of : ℕ → ℕ → List ℕ → List ℕ
compact_response_of count sw octets = min count 255 ∷ sw / 256 ∷ sw % 256 ∷ octets
