-- The field of 256 elements and the S-box, by FIPS 197's own words. An octet is a number below
-- 2 ^ 8, bit i of which is the coefficient of x ^ i. Section numbers are those of FIPS 197 (2001).
use Rattle.std.specs.Prelude.{◌≡◌, ◌<◌, ℕ, zero, suc, ◌+◌, ◌*◌, ◌/◌, ◌%◌, ◌^◌, ◌==◌, List, bit_xor, unwrap_or, find}
use Rattle.std.specs.Int.{bit_at}
use Rattle.std.specs.List.{range_with_len}

-- the product with x: a shift to the left and, where a bit is shifted out, 1B added (4.2.1)
unfoldable pub xtime : ℕ → ℕ
xtime b = bit_xor (b * 2 % 2 ^ 8) (bit_at b 7 * 0x1B)

-- the sum over the lowest n bits of a: where bit i is 1, b times x ^ i (4.2.1)
unfoldable pub times_below : ℕ → ℕ → ℕ → ℕ
times_below zero a b = 0
times_below (suc n) a b = bit_xor (bit_at a 0 * b) (times_below n (a / 2) (xtime b))

-- the product a • b of two octets (4.2)
unfoldable pub times : ℕ → ℕ → ℕ
times a b = times_below 8 a b

abbrev pub octet_values : List ℕ
octet_values = range_with_len 0 256

-- the octet whose product with b is 1; of 0, which has none, 0 (4.2, 5.1.1)
unfoldable pub inverse : ℕ → ℕ
inverse b = unwrap_or (find (λ a. times a b == 1) octet_values) 0

-- bit i of the affine map's result (5.1.1)
unfoldable pub affine_bit : ℕ → ℕ → ℕ
affine_bit b i = (bit_at b i + bit_at b ((i + 4) % 8) + bit_at b ((i + 5) % 8)
    + bit_at b ((i + 6) % 8) + bit_at b ((i + 7) % 8) + bit_at 0x63 i) % 2

-- the affine map over the bits (5.1.1)
unfoldable pub affine : ℕ → ℕ
affine b = affine_bit b 0 + affine_bit b 1 * 2 ^ 1 + affine_bit b 2 * 2 ^ 2 + affine_bit b 3 * 2 ^ 3
    + affine_bit b 4 * 2 ^ 4 + affine_bit b 5 * 2 ^ 5 + affine_bit b 6 * 2 ^ 6 + affine_bit b 7 * 2 ^ 7

-- the S-box: the inverse in the field, then the affine map (5.1.1)
unfoldable pub sub_byte : ℕ → ℕ
sub_byte b = affine (inverse b)

-- the octet whose image under the affine map is b
unfoldable pub affine_inverse : ℕ → ℕ
affine_inverse b = unwrap_or (find (λ a. affine a == b) octet_values) 0

-- the inverse S-box: the inverse of the affine map, then the inverse in the field (5.3.2)
unfoldable pub inverse_sub_byte : ℕ → ℕ
inverse_sub_byte b = inverse (affine_inverse b)

-- ---- that it is a field

-- the product of two polynomials, the lowest n bits of the first counting (4.2)
unfoldable pub product_below : ℕ → ℕ → ℕ → ℕ
product_below zero a b = 0
product_below (suc n) a b = bit_xor (bit_at a 0 * b) (product_below n (a / 2) (b * 2))

-- c is the product of a and b modulo x ^ 8 + x ^ 4 + x ^ 3 + x + 1, which is 11B: it has no higher
-- bit, and the product of the polynomials differs from it by a multiple q of 11B (4.2)
abbrev pub IsReducedProduct : ℕ → ℕ → ℕ → Type 0
IsReducedProduct a b c = (c < 2 ^ 8) × ((q : ℕ) × (product_below 8 a b ≡ bit_xor c (product_below 8 q 0x11B)))

-- `times` is the product modulo the field's polynomial, and `inverse` inverts it
pub record IsField : Type 0 where
  pub product : (a b : ℕ) → a < 2 ^ 8 → b < 2 ^ 8 → IsReducedProduct a b (times a b)
  pub inverts : (b : ℕ) → 0 < b → b < 2 ^ 8 → times (inverse b) b ≡ 1
