-- The octets of a response packet. ETSI TS 102 225, 5.2; 3GPP TS 31.115, 4.4.
use Rattle.std.specs.Prelude.{ℕ, ◌+◌, ◌==◌, ◌||◌, Bool, List, [], ◌∷◌, ◌++◌, length}
use Rattle.aes_modes.specs.KeyPair.{KeyPair}
use Rattle.secured_packet.specs.Secured.{checksum_of, five, padding_len, sent, two, with_padding}

-- RPL, RHL and TAR, where so many octets follow RPL. RHL is the number of octets from TAR to the end of CC: 12 in
-- hexadecimal with CC, 0A without.
abbrev pub head_octets : ℕ → ℕ → List ℕ → List ℕ
head_octets len header_len tar = two len ++ header_len ∷ tar

-- CNTR, PCNTR and the status code
abbrev pub status_octets : ℕ → ℕ → ℕ → List ℕ
status_octets counter padding status = five counter ++ padding ∷ status ∷ []

-- the user data header of a response packet in one message (3GPP TS 31.115, 4.4)
abbrev pub user_data_header : List ℕ
user_data_header = 0x02 ∷ 0x71 ∷ 0x00 ∷ []

-- what the cryptographic checksum of a response is over: the user data header, and the packet without CC, before
-- ciphering (own)
abbrev pub checked_octets : List ℕ → ℕ → ℕ → ℕ → List ℕ → List ℕ
checked_octets tar counter padding status text =
    user_data_header ++ head_octets (19 + length text) 0x12 tar ++ status_octets counter padding status ++ text

-- the packet, where so many octets of padding stand at the end of the text
abbrev pub packet_octets : KeyPair → Bool → List ℕ → ℕ → ℕ → ℕ → List ℕ → List ℕ
packet_octets keys ciphered tar counter padding status text =
    head_octets (19 + length text) 0x12 tar
    ++ sent ciphered keys.kic (status_octets counter padding status ++ checksum_of keys.kid (checked_octets tar counter padding status text) ++ text)

-- how many octets of padding a response has: CNTR, PCNTR, status, CC and the data are ciphered
abbrev pub padding_of : Bool → List ℕ → ℕ
padding_of ciphered octets = padding_len ciphered (15 + length octets)

-- the response packet with these data
unfoldable pub response_octets : KeyPair → Bool → List ℕ → ℕ → ℕ → List ℕ → List ℕ
response_octets keys ciphered tar counter status octets =
    packet_octets keys ciphered tar counter (padding_of ciphered octets) status (with_padding (padding_of ciphered octets) octets)

-- the unsecured form: no CC, no data, PCNTR 00
abbrev pub plain_octets : List ℕ → ℕ → ℕ → List ℕ
plain_octets tar counter status = head_octets 11 0x0A tar ++ status_octets counter 0 status

-- the status codes that say that the card used its counter up (ETSI TS 102 225, 5.2.2): PoR OK, insufficient memory,
-- TAR unknown
abbrev pub settles : ℕ → Bool
settles status = (status == 0x00) || (status == 0x07) || (status == 0x09)
