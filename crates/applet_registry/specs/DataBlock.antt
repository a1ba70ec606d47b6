-- A load file data block. GlobalPlatform Card Specification 2.1.1, 9.6.2.3; ISO/IEC 7816-4, 5.2.2.
use Rattle.std.specs.Prelude.{ℕ, ◌+◌, ◌*◌, ◌==◌, nat_lt, if◌then◌else◌, Option, Some, None, option_and_then, List, [], ◌∷◌, length}

-- a length of one octet, or of two, and what stands behind it
abbrev pub short_length : List ℕ → Option (ℕ × List ℕ)
short_length (len ∷ octets) = Some (len, octets)
short_length [] = None

abbrev pub long_length : List ℕ → Option (ℕ × List ℕ)
long_length (high ∷ low ∷ octets) = Some (256 * high + low, octets)
long_length _ = None

-- a length and what stands behind it: an octet below 80, or 81 and a length of one octet, or 82 and one of
-- two octets
abbrev pub length_of : List ℕ → Option (ℕ × List ℕ)
length_of [] = None
length_of (first ∷ octets) =
    if nat_lt first 0x80 then Some (first, octets)
    else if first == 0x81 then short_length octets
    else if first == 0x82 then long_length octets
    else None

-- the octets behind a length, if they are so many
abbrev pub exactly : ℕ × List ℕ → Option (List ℕ)
exactly field = if length field.1 == field.0 then Some field.1 else None

-- the octets of a load file data block: its tag is C4, and nothing stands behind it
abbrev pub data_block_of : List ℕ → Option (List ℕ)
data_block_of [] = None
data_block_of (tag ∷ octets) = if tag == 0xC4 then option_and_then exactly (length_of octets) else None
