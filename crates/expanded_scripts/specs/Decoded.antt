-- What is found at the front of octets: a length with what stands behind it, and a whole command.
use Rattle.std.specs.Prelude.{ℕ, ◌+◌, ◌*◌, ◌==◌, ◌&&◌, nat_lt, if◌then◌else◌, Option, Some, None, List, [], ◌∷◌, length}
use Rattle.apdu_codec.specs.Apdu.{data_len_of}

abbrev pub one_octet_in : List ℕ → Option (ℕ × List ℕ)
one_octet_in [] = None
one_octet_in (number ∷ behind) = Some (number, behind)

abbrev pub two_octets_in : List ℕ → Option (ℕ × List ℕ)
two_octets_in [] = None
two_octets_in (_ ∷ []) = None
two_octets_in (high ∷ low ∷ behind) = Some (high * 256 + low, behind)

abbrev pub length_in : List ℕ → Option (ℕ × List ℕ)
length_in [] = None
length_in (first ∷ behind) =
    if nat_lt first 0x80 then Some (first, behind)
    else if first == 0x81 then one_octet_in behind
    else if first == 0x82 then two_octets_in behind
    else None

-- how many octets the whole command at the front has
abbrev pub whole_len_of : List ℕ → Option ℕ
whole_len_of (cla ∷ ins ∷ p1 ∷ p2 ∷ p3 ∷ octets) = if nat_lt (length octets) (data_len_of ins p3) then None else Some (data_len_of ins p3 + 5)
whole_len_of _ = None

-- how many of the octets are the plain form, where they are that command alone, or with data and an Le
abbrev pub plain_len_from : ℕ → Option ℕ → Option ℕ
plain_len_from all None = None
plain_len_from all (Some len) =
    if len == all then Some len
    else if nat_lt 5 len && (len + 1 == all) then Some len
    else None

abbrev pub plain_len_of : List ℕ → Option ℕ
plain_len_of value = plain_len_from (length value) (whole_len_of value)
