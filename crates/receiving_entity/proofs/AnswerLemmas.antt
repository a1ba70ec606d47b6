-- The octets of answers, and their messages.
use Rattle.std.proofs.Common.{ℕ, ◌+◌, ◌≤◌, Bool, List, ◌∷◌, ◌++◌, length, arith}
use Rattle.std.proofs.lemmas.List.{length-append}
use Rattle.aes_modes.specs.KeyPair.{KeyPair}
use Rattle.response_packet.specs.Response.{padding_of, response_octets}
use Rattle.secured_packet.specs.Secured.{two, with_padding}

-- behind a text and one octet stands one at least
some_octets : (front rest more : List ℕ) (octet : ℕ) → 1 ≤ length ((front ++ octet ∷ rest) ++ more)
some_octets front rest more octet = omega (arith, length-append (front ++ octet ∷ rest) more, length-append front (octet ∷ rest))

pub response_has_octets : (keys : KeyPair) (ciphered : Bool) (tar : List ℕ) (counter status : ℕ) (octets : List ℕ) → 1 ≤ length (response_octets keys ciphered tar counter status octets)
unfolding response_octets
response_has_octets keys ciphered tar counter status octets =
    some_octets (two (19 + length (with_padding (padding_of ciphered octets) octets))) tar _ 0x12
