-- Octets as hexadecimal digits of either case.
use Rattle.std.specs.Prelude.{◌≡◌, ℕ, Bool, true, false, Option, List, Ok}
use Rattle.std.specs.Result.{result_ok}
use Rattle.hex.specs.Hex.{decode_sized, decode_of}
use Rattle.hex.specs.declared.error.FromHexError.{FromHexError}
use Rattle.hex.specs.declared.error.FromHexError.TheVariants.{InvalidHexCharacter, OddLength, InvalidStringLength, OutOfMemory}

-- the octets that twice as many digits write
unfoldable pub octets_of : ℕ → List ℕ → Option (List ℕ)
octets_of len digits = result_ok (decode_sized digits len)

-- the digits write these octets, two digits an octet, in either case
abbrev pub AreDigitsOf : List ℕ → List ℕ → Type 0
AreDigitsOf octets digits = decode_of digits ≡ Ok octets

-- the error is want of memory
abbrev pub is_memory : FromHexError → Bool
is_memory (InvalidHexCharacter digit place) = false
is_memory OddLength = false
is_memory InvalidStringLength = false
is_memory OutOfMemory = true
