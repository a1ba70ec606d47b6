use Rattle.std.specs.Prelude.{◌≡◌, ℕ, ◌-◌, ◌==◌, ◌||◌, Bool, IsTrue, List, ◌++◌, length, take, replicate}

-- the lengths of an AES key in octets (FIPS 197, 5)
abbrev pub is_key_length : ℕ → Bool
is_key_length n = (n == 16) || (n == 24) || (n == 32)

-- a key, and zeros behind it up to 32 octets
abbrev pub padded : List ℕ → List ℕ
padded key = key ++ replicate (32 - length key) 0

-- 32 octets that begin with a key of this length and go on with zeros
pub record IsPadded (octets : List ℕ) (len : ℕ) : Type 0 where
  pub long : IsTrue (is_key_length len)
  pub zeros : octets ≡ padded (take len octets)
  pub taken : length (take len octets) ≡ len
