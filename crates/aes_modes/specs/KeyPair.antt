-- The two keys of a keyset, as contracts see them.
use Rattle.std.specs.Prelude.{ℕ, List}

-- the octets of KIc, which ciphers, and of KID, which makes the cryptographic checksum
pub record KeyPair : Type 0 where
  pub kic : List ℕ
  pub kid : List ℕ
