-- What holds of AES for every key and block. FIPS 197, 5.
use Rattle.std.specs.Prelude.{◌≡◌, List, ℕ}
use Rattle.gf_aes.specs.Cipher.{IsBlock, aes_decrypts, aes_encrypts}

-- AES gives 16 octets, whatever lists it is given
abbrev pub GivesBlocks : Type 0
GivesBlocks = (key block : List ℕ) → IsBlock (aes_encrypts key block)

-- the inverse of AES undoes AES
abbrev pub IsUndone : Type 0
IsUndone = (key block : List ℕ) → IsBlock block → aes_decrypts key (aes_encrypts key block) ≡ block
