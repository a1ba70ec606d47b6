-- AES by FIPS 197's own words. A block, a state and a round key are lists of 16 octets, in the
-- order of input: row r of column c is at place r + 4 * c (3.4). A word is a number below 2 ^ 32,
-- its first octet highest (3.5). Section numbers are those of FIPS 197 (2001).
use Rattle.std.specs.Prelude.{◌≡◌, ℕ, zero, suc, ◌+◌, ◌-◌, ◌*◌, ◌/◌, ◌%◌, ◌^◌, ◌<◌, ◌≤◌, ◌==◌, ◌&&◌, ◌⊎◌, nat_lt, if◌then◌else◌, List, [], ◌∷◌, ◌++◌, length, map, slice_index, bit_xor}
use Rattle.std.specs.List.{range_with_len}
use Rattle.gf_aes.specs.Field.{xtime, times, sub_byte, inverse_sub_byte}

-- the four octets of a word
abbrev pub octets : ℕ → List ℕ
octets w = (w / 2 ^ 24 % 2 ^ 8) ∷ (w / 2 ^ 16 % 2 ^ 8) ∷ (w / 2 ^ 8 % 2 ^ 8) ∷ (w % 2 ^ 8) ∷ []

-- octet i of a word
abbrev pub octet : ℕ → ℕ → ℕ
octet w i = slice_index (octets w) i

-- the word of four octets
abbrev pub word_of : ℕ → ℕ → ℕ → ℕ → ℕ
word_of a b c d = a * 2 ^ 24 + b * 2 ^ 16 + c * 2 ^ 8 + d

-- the block whose columns are four words
abbrev pub block_of : List ℕ → List ℕ
block_of w = octets (slice_index w 0) ++ octets (slice_index w 1) ++ octets (slice_index w 2) ++ octets (slice_index w 3)

-- the four words of two halves of two words each, the first word higher
abbrev pub columns_of : List ℕ → List ℕ
columns_of h = (slice_index h 0 / 2 ^ 32) ∷ (slice_index h 0 % 2 ^ 32) ∷ (slice_index h 1 / 2 ^ 32) ∷ (slice_index h 1 % 2 ^ 32) ∷ []

-- one octet from each of four words: the first of a, the second of b, and so on
abbrev pub diagonal : ℕ → ℕ → ℕ → ℕ → List ℕ
diagonal a b c d = octet a 0 ∷ octet b 1 ∷ octet c 2 ∷ octet d 3 ∷ []

-- 16 octets
abbrev pub IsBlock : List ℕ → Type 0
IsBlock s = (length s ≡ 16) × ((i : ℕ) → slice_index s i < 2 ^ 8)

-- the sum of two lists, octet by octet (4.1)
abbrev pub xor_lists : List ℕ → List ℕ → List ℕ
xor_lists [] ys = []
xor_lists (x ∷ xs) [] = []
xor_lists (x ∷ xs) (y ∷ ys) = bit_xor x y ∷ xor_lists xs ys

-- column c of a state
abbrev pub column : List ℕ → ℕ → List ℕ
column s c = slice_index s (4 * c) ∷ slice_index s (4 * c + 1) ∷ slice_index s (4 * c + 2) ∷ slice_index s (4 * c + 3) ∷ []

abbrev pub each_column : (List ℕ → List ℕ) → List ℕ → List ℕ
each_column f s = f (column s 0) ++ f (column s 1) ++ f (column s 2) ++ f (column s 3)

-- SubBytes (5.1.1)
abbrev pub sub_bytes : List ℕ → List ℕ
sub_bytes s = map sub_byte s

-- ShiftRows: row r of column c comes from column c + r modulo 4 (5.1.2)
abbrev pub shift_rows : List ℕ → List ℕ
shift_rows s = map (λ i. slice_index s (i % 4 + 4 * ((i / 4 + i % 4) % 4))) (range_with_len 0 16)

-- one row of a matrix, times a column
abbrev pub row_times : ℕ → ℕ → ℕ → ℕ → List ℕ → ℕ
row_times a b c d s = bit_xor (bit_xor (bit_xor (times a (slice_index s 0)) (times b (slice_index s 1)))
    (times c (slice_index s 2))) (times d (slice_index s 3))

-- a column times the matrix whose first row is a, b, c, d, and whose rows each are the row above
-- turned by one place (4.3)
abbrev pub matrix_times : ℕ → ℕ → ℕ → ℕ → List ℕ → List ℕ
matrix_times a b c d s = row_times a b c d s ∷ row_times d a b c s ∷ row_times c d a b s ∷ row_times b c d a s ∷ []

-- the products of four factors with one octet: what it gives to a column through a matrix
abbrev pub multiples : ℕ → ℕ → ℕ → ℕ → ℕ → List ℕ
multiples a b c d s = times a s ∷ times b s ∷ times c s ∷ times d s ∷ []

-- MixColumns of one column (5.1.3)
abbrev pub mix_column : List ℕ → List ℕ
mix_column = matrix_times 0x02 0x03 0x01 0x01

-- MixColumns (5.1.3)
abbrev pub mix_columns : List ℕ → List ℕ
mix_columns s = each_column mix_column s

-- the words w r, four from each 4 * r on, as 16 octets
abbrev pub round_key : List ℕ → ℕ → List ℕ
round_key w r = octets (slice_index w (4 * r)) ++ octets (slice_index w (4 * r + 1))
    ++ octets (slice_index w (4 * r + 2)) ++ octets (slice_index w (4 * r + 3))

-- AddRoundKey with the words of round r (5.1.4)
abbrev pub add_round_key : List ℕ → List ℕ → ℕ → List ℕ
add_round_key w s r = xor_lists s (round_key w r)

-- the state after the first n rounds from the block s, each with all four steps (5.1)
unfoldable pub rounds : List ℕ → List ℕ → ℕ → List ℕ
rounds w s zero = add_round_key w s 0
rounds w s (suc n) = add_round_key w (mix_columns (shift_rows (sub_bytes (rounds w s n)))) (n + 1)

-- the cipher with the key words w, in n rounds, the last of which has no MixColumns (5.1)
unfoldable pub cipher : List ℕ → ℕ → List ℕ → List ℕ
cipher w n s = add_round_key w (shift_rows (sub_bytes (rounds w s (n - 1)))) n

-- InvShiftRows: row r of column c comes from column c - r modulo 4 (5.3.1)
abbrev pub inverse_shift_rows : List ℕ → List ℕ
inverse_shift_rows s = map (λ i. slice_index s (i % 4 + 4 * ((i / 4 + 4 - i % 4) % 4))) (range_with_len 0 16)

-- InvSubBytes (5.3.2)
abbrev pub inverse_sub_bytes : List ℕ → List ℕ
inverse_sub_bytes s = map inverse_sub_byte s

-- InvMixColumns of one column (5.3.3)
abbrev pub inverse_mix_column : List ℕ → List ℕ
inverse_mix_column = matrix_times 0x0E 0x0B 0x0D 0x09

-- InvMixColumns (5.3.3)
abbrev pub inverse_mix_columns : List ℕ → List ℕ
inverse_mix_columns s = each_column inverse_mix_column s

-- the state after the first m rounds of the inverse cipher in n rounds (5.3)
unfoldable pub inverse_rounds : List ℕ → ℕ → List ℕ → ℕ → List ℕ
inverse_rounds w n s zero = add_round_key w s n
inverse_rounds w n s (suc m) = inverse_mix_columns
    (add_round_key w (inverse_sub_bytes (inverse_shift_rows (inverse_rounds w n s m))) (n - (m + 1)))

-- the inverse cipher with the key words w, in n rounds (5.3)
unfoldable pub inverse_cipher : List ℕ → ℕ → List ℕ → List ℕ
inverse_cipher w n s = add_round_key w
    (inverse_sub_bytes (inverse_shift_rows (inverse_rounds w n s (n - 1)))) 0

-- words after InvMixColumns stand where the inner rounds of n rounds have their words w (5.3.5)
abbrev pub IsMixed : List ℕ → List ℕ → ℕ → Type 0
IsMixed w mixed n = (i : ℕ) → 4 ≤ i → i < 4 * n
    → octets (slice_index mixed i) ≡ inverse_mix_column (octets (slice_index w i))

-- SubWord (5.2)
unfoldable pub sub_word : ℕ → ℕ
sub_word w = word_of (sub_byte (w / 2 ^ 24 % 2 ^ 8)) (sub_byte (w / 2 ^ 16 % 2 ^ 8))
    (sub_byte (w / 2 ^ 8 % 2 ^ 8)) (sub_byte (w % 2 ^ 8))

-- RotWord: the octets turned by one place (5.2)
unfoldable pub rot_word : ℕ → ℕ
rot_word w = word_of (w / 2 ^ 16 % 2 ^ 8) (w / 2 ^ 8 % 2 ^ 8) (w % 2 ^ 8) (w / 2 ^ 24 % 2 ^ 8)

-- the field's x ^ n
unfoldable pub power_of_x : ℕ → ℕ
power_of_x zero = 1
power_of_x (suc n) = xtime (power_of_x n)

-- Rcon i: x ^ (i - 1) and three zeros (5.2)
unfoldable pub round_constant : ℕ → ℕ
round_constant i = word_of (power_of_x (i - 1)) 0 0 0

-- what word i adds to the word nk before it, from the word t just before it (5.2)
unfoldable pub key_step : ℕ → ℕ → ℕ → ℕ
key_step nk i t =
    if i % nk == 0 then bit_xor (sub_word (rot_word t)) (round_constant (i / nk))
    else (if nat_lt 6 nk && (i % nk == 4) then sub_word t else t)

-- word i of the key expansion, from the words w before it: the key's own first (5.2)
unfoldable pub next_word : List ℕ → List ℕ → ℕ → ℕ
next_word key w i =
    if nat_lt i (length key / 4)
    then word_of (slice_index key (4 * i)) (slice_index key (4 * i + 1)) (slice_index key (4 * i + 2)) (slice_index key (4 * i + 3))
    else bit_xor (slice_index w (i - length key / 4)) (key_step (length key / 4) i (slice_index w (i - 1)))

-- the first n words of the key expansion (5.2)
unfoldable pub first_words : List ℕ → ℕ → List ℕ
first_words key zero = []
first_words key (suc n) = first_words key n ++ next_word key (first_words key n) n ∷ []

-- the lengths that a key may have (6.1)
abbrev pub IsKeyLength : ℕ → Type 0
IsKeyLength n = (n ≡ 16) ⊎ (n ≡ 24) ⊎ (n ≡ 32)

-- the number of rounds: 10, 12 or 14 for 4, 6 or 8 words of key (5)
abbrev pub round_count : List ℕ → ℕ
round_count key = length key / 4 + 6

-- the key expansion: four words for each round key (5.2)
unfoldable pub key_words : List ℕ → List ℕ
key_words key = first_words key (4 * round_count key + 4)

-- AES of a block under a key of 16, 24 or 32 octets (5.1)
unfoldable pub aes_encrypts : List ℕ → List ℕ → List ℕ
aes_encrypts key block = cipher (key_words key) (round_count key) block

-- the inverse of AES (5.3)
unfoldable pub aes_decrypts : List ℕ → List ℕ → List ℕ
aes_decrypts key block = inverse_cipher (key_words key) (round_count key) block
