-- The octets of a command packet. ETSI TS 102 225, 5.1.
use Rattle.std.specs.Prelude.{ℕ, ◌+◌, ◌*◌, ◌/◌, Bool, if◌then◌else◌, List, [], ◌∷◌, ◌++◌, length}
use Rattle.ota_core.specs.declared.security.Spi.{Spi}
use Rattle.ota_core.specs.Security.{spi_octets, key_octet}
use Rattle.aes_modes.specs.KeyPair.{KeyPair}
use Rattle.secured_packet.specs.Secured.{checksum_of, five, padding_len, sent, two, with_padding}

-- CPL, CHL, SPI, KIc, KID and TAR, where so many octets follow CPL. CHL is the number of octets from SPI to the end of CC,
-- 15 in hexadecimal: 2 of SPI, 1 of KIc, 1 of KID, 3 of TAR, 5 of CNTR, 1 of PCNTR, 8 of CC.
abbrev pub head_octets : ℕ → Spi → ℕ → List ℕ → List ℕ
head_octets len spi kvn tar = two len ++ 0x15 ∷ spi_octets spi ++ key_octet kvn ∷ key_octet kvn ∷ tar

-- CNTR and PCNTR
abbrev pub counter_octets : ℕ → ℕ → List ℕ
counter_octets counter padding = five counter ++ padding ∷ []

-- what the cryptographic checksum of a command is over: the packet without it, before ciphering (own)
abbrev pub checked_octets : Spi → ℕ → List ℕ → ℕ → ℕ → List ℕ → List ℕ
checked_octets spi kvn tar counter padding text = head_octets (22 + length text) spi kvn tar ++ counter_octets counter padding ++ text

-- the packet, where so many octets of padding stand at the end of the text
abbrev pub packet_octets : KeyPair → ℕ → Spi → List ℕ → ℕ → ℕ → List ℕ → List ℕ
packet_octets keys kvn spi tar counter padding text =
    head_octets (22 + length text) spi kvn tar
    ++ sent spi.ciphered keys.kic (counter_octets counter padding ++ checksum_of keys.kid (checked_octets spi kvn tar counter padding text) ++ text)

-- how many octets of padding a command has: CNTR, PCNTR, CC and the body are ciphered
abbrev pub padding_of : Spi → List ℕ → ℕ
padding_of spi body = padding_len spi.ciphered (14 + length body)

-- how many octets the packet of a body of so many has: 24 more; ciphered, the 10 to the end of TAR and the least multiple of
-- 16 that is at least 14 more than the body
abbrev pub packet_length : Bool → ℕ → ℕ
packet_length ciphered len = if ciphered then 10 + (14 + len + 15) / 16 * 16 else 24 + len

-- the command packet with this body
unfoldable pub command_octets : KeyPair → ℕ → Spi → List ℕ → ℕ → List ℕ → List ℕ
command_octets keys kvn spi tar counter body =
    packet_octets keys kvn spi tar counter (padding_of spi body) (with_padding (padding_of spi body) body)
