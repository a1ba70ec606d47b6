-- What holds of CBC and CMAC for every key and text. NIST SP 800-38A, 6.2; NIST SP 800-38B, 6.2.
use Rattle.std.specs.Prelude.{◌≡◌, ◌%◌, ℕ, List, length}
use Rattle.gf_aes.specs.Cipher.{IsBlock}
use Rattle.aes_modes.specs.Modes.{AreOctets, cbc_of, cbc_plain_of, cmac_of}

-- CBC keeps the length of whole blocks
abbrev pub KeepsLength : Type 0
KeepsLength = (key text : List ℕ) → length text % 16 ≡ 0 → length (cbc_of key text) ≡ length text

-- decrypting undoes encrypting
abbrev pub IsUndone : Type 0
IsUndone = (key text : List ℕ) → AreOctets text → length text % 16 ≡ 0 → cbc_plain_of key (cbc_of key text) ≡ text

-- a CMAC is 16 octets, whatever lists it is of
abbrev pub GivesBlocks : Type 0
GivesBlocks = (key text : List ℕ) → IsBlock (cmac_of key text)
