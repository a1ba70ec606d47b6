-- How a packet is secured: SPI, KIc and KID (ETSI TS 102 225, 5.1.1 to 5.1.3), of which the profile takes a part.
use Rattle.std.specs.Prelude.{ℕ, ◌+◌, ◌*◌, ◌/◌, ◌%◌, ◌==◌, ◌&&◌, nat_lt, Bool, true, false, if◌then◌else◌, Option, Some, None, List, [], ◌∷◌}
use Rattle.ota_core.specs.declared.keysets.Mode.{Mode}
use Rattle.ota_core.specs.declared.keysets.Mode.TheVariants.{Higher, Next}
use Rattle.ota_core.specs.declared.security.Spi.{Spi}

-- The first octet of an SPI: a cryptographic checksum (b2b1 = 10), ciphering or none (b3), and a counter that is to be
-- higher (b5b4 = 10) or one higher (b5b4 = 11).
abbrev pub command_security : Mode → Bool → ℕ
command_security Higher false = 0x12
command_security Higher true = 0x16
command_security Next false = 0x1A
command_security Next true = 0x1E

-- The second octet of an SPI: a response always (b2b1 = 01), with a cryptographic checksum (b4b3 = 10), ciphered or not
-- (b5), as SMS-SUBMIT (b6).
abbrev pub answer_security : Bool → ℕ
answer_security false = 0x29
answer_security true = 0x39

-- the two octets of an SPI
abbrev pub spi_octets : Spi → List ℕ
spi_octets spi = command_security spi.mode spi.ciphered ∷ answer_security spi.answer_ciphered ∷ []

-- KIc and KID: AES (b4 to b1 = 0010; as KIc in CBC mode, as KID in CMAC mode), and the key version number (b8 to b5)
abbrev pub key_octet : ℕ → ℕ
key_octet kvn = kvn * 16 + 2

-- what the first octet of an SPI says, where it is one of the four
abbrev pub read_command_security : ℕ → Option (Mode × Bool)
read_command_security octet =
    if octet == 0x12 then Some (Higher, false)
    else (if octet == 0x16 then Some (Higher, true)
    else (if octet == 0x1A then Some (Next, false)
    else (if octet == 0x1E then Some (Next, true) else None)))

-- what the second octet of an SPI says, where it is one of the two
abbrev pub read_answer_security : ℕ → Option Bool
read_answer_security octet = if octet == 0x29 then Some false else (if octet == 0x39 then Some true else None)

-- the SPI of what its two octets say
abbrev pub spi_with : Option (Mode × Bool) → Option Bool → Option Spi
spi_with (Some (mode, ciphered)) (Some answer_ciphered) = Some (record { ciphered = ciphered; mode = mode; answer_ciphered = answer_ciphered })
spi_with _ _ = None

-- the SPI that octets are, where they are one of the eight pairs of the profile
abbrev pub read_spi_octets : List ℕ → Option Spi
read_spi_octets (first ∷ second ∷ []) = spi_with (read_command_security first) (read_answer_security second)
read_spi_octets _ = None

-- the key version number in a KIc or KID, where it is of the profile
abbrev pub read_key_octet : ℕ → Option ℕ
read_key_octet octet = if (octet % 16 == 2) && nat_lt 0 (octet / 16) then Some (octet / 16) else None
