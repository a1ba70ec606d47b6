-- Application identifiers. ISO/IEC 7816-4, 8.2.1.2.
use Rattle.std.specs.Prelude.{ℕ, Bool, ◌&&◌, nat_le, if◌then◌else◌, Option, Some, None, List, length}

-- an AID has 5 to 16 octets
abbrev pub is_aid : List ℕ → Bool
is_aid octets = nat_le 5 (length octets) && nat_le (length octets) 16

-- the AID that these octets are
abbrev pub aid_of : List ℕ → Option (List ℕ)
aid_of octets = if is_aid octets then Some octets else None
