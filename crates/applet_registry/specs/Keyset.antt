-- The data of PUT KEY: a keyset, whose counter begins at 0. GlobalPlatform Card Specification 2.1.1, 9.8; which
-- fields there are is this card's own.
use Rattle.std.specs.Prelude.{ℕ, Bool, true, false, not, ◌==◌, ◌&&◌, if◌then◌else◌, Option, Some, None, option_and_then, List, [], ◌∷◌, length, bytes_eq}
use Rattle.ota_core.specs.KeyBytes.{is_key_length}
use Rattle.ota_core.specs.declared.keysets.KeysetFacts.{KeysetFacts}
use Rattle.ota_core.specs.declared.keysets.Mode.{Mode}
use Rattle.ota_core.specs.declared.keysets.Mode.TheVariants.{Higher, Next}
use Rattle.applet_registry.specs.Fields.{values_of}

-- how counters are checked, as b5 and b4 of the SPI have it: 02 the counter is higher, 03 it is the next one
-- (ETSI TS 102 225, 5.1.1)
abbrev pub mode_of : ℕ → Option Mode
mode_of octet = if octet == 0x02 then Some Higher else if octet == 0x03 then Some Next else None

-- whether packets are ciphered
abbrev pub ciphered_of : ℕ → Option Bool
ciphered_of octet = if octet == 0x00 then Some false else if octet == 0x01 then Some true else None

-- a keyset with two keys, KIc and KID, of 16, 24 or 32 octets each
abbrev pub with_keys : Mode → Bool → Option (List (List ℕ)) → Option KeysetFacts
with_keys mode ciphered (Some (kic ∷ kid ∷ [])) =
    if is_key_length (length kic) && is_key_length (length kid)
    then Some (record { base = 0; mode = mode; ciphered = ciphered; kic = kic; kid = kid }) else None
with_keys mode ciphered _ = None

-- the keyset that these octets are: the mode, whether packets are ciphered, and the two keys, each behind its
-- length, which fill the octets exactly
abbrev pub keyset_of : List ℕ → Option KeysetFacts
keyset_of (mode ∷ ciphered ∷ keys) = option_and_then (λ mode. option_and_then (λ ciphered. with_keys mode ciphered (values_of 2 keys)) (ciphered_of ciphered)) (mode_of mode)
keyset_of _ = None

-- two modes are the same
abbrev pub is_mode : Mode → Mode → Bool
is_mode Higher Higher = true
is_mode Next Next = true
is_mode _ _ = false

-- two keysets have the same data
abbrev pub are_same : KeysetFacts → KeysetFacts → Bool
are_same a b = is_mode a.mode b.mode && (if a.ciphered then b.ciphered else not b.ciphered) && bytes_eq a.kic b.kic && bytes_eq a.kid b.kid
