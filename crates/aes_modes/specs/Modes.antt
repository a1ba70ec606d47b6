-- CBC by NIST SP 800-38A and CMAC by NIST SP 800-38B, over AES and blocks of 16 octets.
use Rattle.std.specs.Prelude.{ℕ, zero, suc, ◌+◌, ◌-◌, ◌*◌, ◌/◌, ◌%◌, ◌^◌, ◌<◌, ◌==◌, nat_lt, if◌then◌else◌, List, [], ◌∷◌, ◌++◌, length, map, take, drop, replicate, slice_index}
use Rattle.std.specs.List.{range_with_len}
use Rattle.gf_aes.specs.Cipher.{aes_decrypts, aes_encrypts, xor_lists}

-- each is an octet
abbrev pub AreOctets : List ℕ → Type 0
AreOctets s = (i : ℕ) → slice_index s i < 2 ^ 8

abbrev pub zero_block : List ℕ
zero_block = replicate 16 0

-- block i of a text, from 0
abbrev pub text_block : List ℕ → ℕ → List ℕ
text_block m i = take 16 (drop (16 * i) m)

-- ---- CBC

-- cipher block n, from 1: AES of plain block n plus the cipher block before it, and before the
-- first the zero block (SP 800-38A, 6.2)
unfoldable pub chained : List ℕ → List ℕ → ℕ → List ℕ
chained key m zero = zero_block
chained key m (suc n) = aes_encrypts key (xor_lists (chained key m n) (text_block m n))

-- the first n cipher blocks
unfoldable pub cbc_blocks : List ℕ → List ℕ → ℕ → List ℕ
cbc_blocks key m zero = []
cbc_blocks key m (suc n) = cbc_blocks key m n ++ chained key m (n + 1)

-- CBC encryption of a text of whole blocks (SP 800-38A, 6.2)
unfoldable pub cbc_of : List ℕ → List ℕ → List ℕ
cbc_of key m = cbc_blocks key m (length m / 16)

-- the cipher block before block i, from 0: before the first the zero block
abbrev pub block_before : List ℕ → ℕ → List ℕ
block_before m zero = zero_block
block_before m (suc i) = text_block m i

-- plain block i, from 0: the inverse of AES of the cipher block, plus the one before (SP 800-38A, 6.2)
abbrev pub plain_block : List ℕ → List ℕ → ℕ → List ℕ
plain_block key m i = xor_lists (aes_decrypts key (text_block m i)) (block_before m i)

-- the first n plain blocks
unfoldable pub plain_blocks : List ℕ → List ℕ → ℕ → List ℕ
plain_blocks key m zero = []
plain_blocks key m (suc n) = plain_blocks key m n ++ plain_block key m n

-- CBC decryption of a text of whole blocks (SP 800-38A, 6.2)
unfoldable pub cbc_plain_of : List ℕ → List ℕ → List ℕ
cbc_plain_of key m = plain_blocks key m (length m / 16)

-- ---- CMAC

-- a block, one bit to the left (SP 800-38B, 6.1)
abbrev pub shifted_left : List ℕ → List ℕ
shifted_left s = map (λ i. slice_index s i * 2 % 2 ^ 8 + slice_index s (i + 1) / 2 ^ 7) (range_with_len 0 16)

-- R 128: 15 zeros and 87 (SP 800-38B, 5.3)
abbrev pub constant_r : List ℕ
constant_r = replicate 15 0 ++ 0x87 ∷ []

-- the next subkey: one bit to the left, plus R 128 where the bit that is shifted out is 1
-- (SP 800-38B, 6.1)
unfoldable pub next_subkey : List ℕ → List ℕ
next_subkey s = if nat_lt (slice_index s 0) (2 ^ 7) then shifted_left s else xor_lists (shifted_left s) constant_r

-- K1 (SP 800-38B, 6.1)
abbrev pub first_subkey : List ℕ → List ℕ
first_subkey key = next_subkey (aes_encrypts key zero_block)

-- K2 (SP 800-38B, 6.1)
abbrev pub second_subkey : List ℕ → List ℕ
second_subkey key = next_subkey (first_subkey key)

-- a bit 1 and zeros up to a whole block (SP 800-38B, 6.2)
abbrev pub padded : List ℕ → List ℕ
padded s = s ++ 0x80 ∷ replicate (15 - length s) 0

-- M n, from what is left for the last block, 0 to 16 octets: a whole block plus K1, another padded
-- plus K2 (SP 800-38B, 6.2)
unfoldable pub last_block : List ℕ → List ℕ → List ℕ
last_block key s =
    if length s == 16 then xor_lists (first_subkey key) s else xor_lists (second_subkey key) (padded s)

-- how many blocks stand before the last one, which holds 1 to 16 octets, or none of an empty text
abbrev pub blocks_before : List ℕ → ℕ
blocks_before m = (length m - 1) / 16

-- the last cipher block of the chain over the text with its last block changed (SP 800-38B, 6.2)
unfoldable pub cmac_of : List ℕ → List ℕ → List ℕ
cmac_of key m = aes_encrypts key
    (xor_lists (chained key m (blocks_before m)) (last_block key (drop (16 * blocks_before m) m)))
