-- What commands and responses have in common. ETSI TS 102 225, 5.1 and 5.2. Ciphering is AES in CBC mode, the
-- cryptographic checksum the first 8 octets of a CMAC with AES.
use Rattle.std.specs.Prelude.{ℕ, ◌+◌, ◌-◌, ◌%◌, Bool, if◌then◌else◌, List, ◌++◌, take, drop, replicate}
use Rattle.std.specs.Str.{bytes_eq}
use Rattle.std.specs.Int.{bytes_high_first, from_be_bytes, w16, w64}
use Rattle.aes_modes.specs.Modes.{cbc_of, cbc_plain_of, cmac_of}

-- a number in two octets, the highest first
unfoldable pub two : ℕ → List ℕ
two number = bytes_high_first 2 number

-- a counter in five octets, the highest first
unfoldable pub five : ℕ → List ℕ
five counter = bytes_high_first 5 counter

-- the number that two octets are
unfoldable pub number_of_two : List ℕ → ℕ
number_of_two octets = from_be_bytes w16 octets

-- the number that five octets are
unfoldable pub number_of_five : List ℕ → ℕ
number_of_five octets = from_be_bytes w64 (replicate 3 0 ++ octets)

-- how many octets of padding stand behind so many: ciphered, the least that make whole blocks of 16; else none
abbrev pub padding_len : Bool → ℕ → ℕ
padding_len ciphered len = if ciphered then (16 - len % 16) % 16 else 0

-- a text with as many zeros behind it
abbrev pub with_padding : ℕ → List ℕ → List ℕ
with_padding padding text = text ++ replicate padding 0

-- octets as they are sent, ciphered or not
abbrev pub sent : Bool → List ℕ → List ℕ → List ℕ
sent ciphered kic octets = if ciphered then cbc_of kic octets else octets

-- octets that were sent ciphered or not, as they were before
abbrev pub deciphered : Bool → List ℕ → List ℕ → List ℕ
deciphered ciphered kic octets = if ciphered then cbc_plain_of kic octets else octets

-- the cryptographic checksum
abbrev pub checksum_of : List ℕ → List ℕ → List ℕ
checksum_of kid octets = take 8 (cmac_of kid octets)

-- the 8 octets behind the first `front` are the cryptographic checksum of what stands before, and of all others
abbrev pub has_checksum : List ℕ → List ℕ → ℕ → List ℕ → Bool
has_checksum kid before front octets =
    bytes_eq (take 8 (drop front octets)) (checksum_of kid ((before ++ take front octets) ++ drop (front + 8) octets))
