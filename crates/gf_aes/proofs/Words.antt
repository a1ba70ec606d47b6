-- Words as four octets: their sums, and the word of four octets; halves of a block as two words.
use Rattle.std.proofs.Common.{◌≡◌, ℕ, ◌/◌, ◌%◌, ◌^◌, ◌<◌, ◌≤◌, List, [], ◌∷◌, ◌++◌, length, drop, refl, ap, ◌∙◌, arith}
use Rattle.std.specs.Prelude.{bit_xor}
use Rattle.std.specs.Int.{w64, to_be_bytes}
use borrow.Rule.Slice.PartMut.{put_mid}
use Rattle.std.proofs.lemmas.List.{append-nil, drop_all, length-append, length-drop, take-append-le, take_all}
use Rattle.std.proofs.lemmas.Nat.{xor_shr, xor_mod}
use Rattle.gf_aes.specs.Cipher.{block_of, columns_of, octets, word_of, xor_lists}

octet-xor : (k x y : ℕ) → bit_xor x y / 2 ^ k % 2 ^ 8 ≡ bit_xor (x / 2 ^ k % 2 ^ 8) (y / 2 ^ k % 2 ^ 8)
octet-xor k x y = rw (xor_shr x y k, xor_mod (x / 2 ^ k) (y / 2 ^ k) 8) refl

-- a sum of words is summed octet by octet
pub octets-xor : (x y : ℕ) → octets (bit_xor x y) ≡ xor_lists (octets x) (octets y)
octets-xor x y = rw (octet-xor 24 x y, octet-xor 16 x y, octet-xor 8 x y, xor_mod x y 8) refl

pub octets-word_of : (a b c d : ℕ) → a < 2 ^ 8 → b < 2 ^ 8 → c < 2 ^ 8 → d < 2 ^ 8 → octets (word_of a b c d) ≡ a ∷ b ∷ c ∷ d ∷ []
octets-word_of a b c d ha hb hc hd =
    let e0 : word_of a b c d / 2 ^ 24 % 2 ^ 8 ≡ a = omega arith in
    let e1 : word_of a b c d / 2 ^ 16 % 2 ^ 8 ≡ b = omega arith in
    let e2 : word_of a b c d / 2 ^ 8 % 2 ^ 8 ≡ c = omega arith in
    let e3 : word_of a b c d % 2 ^ 8 ≡ d = omega arith in
    rw (e0, e1, e2, e3) refl

pub octet_below : (n : ℕ) → n % 2 ^ 8 < 256
octet_below n = omega arith

-- ---- halves of a block

high-xor : (x y : ℕ) → octets (bit_xor x y / 2 ^ 32) ≡ xor_lists (octets (x / 2 ^ 32)) (octets (y / 2 ^ 32))
high-xor x y = ap octets (xor_shr x y 32) ∙ octets-xor (x / 2 ^ 32) (y / 2 ^ 32)

low-xor : (x y : ℕ) → octets (bit_xor x y % 2 ^ 32) ≡ xor_lists (octets (x % 2 ^ 32)) (octets (y % 2 ^ 32))
low-xor x y = ap octets (xor_mod x y 32) ∙ octets-xor (x % 2 ^ 32) (y % 2 ^ 32)

-- a sum of blocks, half by half, is summed octet by octet
pub halves-xor : (a b c d : ℕ) → block_of (columns_of (bit_xor a c ∷ bit_xor b d ∷ [])) ≡ xor_lists (block_of (columns_of (a ∷ b ∷ []))) (block_of (columns_of (c ∷ d ∷ [])))
halves-xor a b c d = λ i. high-xor a c i ++ low-xor a c i ++ high-xor b d i ++ low-xor b d i

-- the octets of a half are those of its two words
pub half-octets : (n : ℕ) → to_be_bytes w64 n ≡ octets (n / 2 ^ 32) ++ octets (n % 2 ^ 32)
half-octets n =
    let e0 : n / 2 ^ 32 / 2 ^ 24 % 2 ^ 8 ≡ n / 2 ^ 56 % 2 ^ 8 = omega arith in
    let e1 : n / 2 ^ 32 / 2 ^ 16 % 2 ^ 8 ≡ n / 2 ^ 48 % 2 ^ 8 = omega arith in
    let e2 : n / 2 ^ 32 / 2 ^ 8 % 2 ^ 8 ≡ n / 2 ^ 40 % 2 ^ 8 = omega arith in
    let e4 : n % 2 ^ 32 / 2 ^ 24 % 2 ^ 8 ≡ n / 2 ^ 24 % 2 ^ 8 = omega arith in
    let e5 : n % 2 ^ 32 / 2 ^ 16 % 2 ^ 8 ≡ n / 2 ^ 16 % 2 ^ 8 = omega arith in
    let e6 : n % 2 ^ 32 / 2 ^ 8 % 2 ^ 8 ≡ n / 2 ^ 8 % 2 ^ 8 = omega arith in
    let e7 : n % 2 ^ 32 % 2 ^ 8 ≡ n % 2 ^ 8 = omega arith in
    rw (e0, e1, e2, e4, e5, e6, e7) refl

-- eight octets written behind eight others, to the end
pub put_behind : (xs ys rest : List ℕ) (k : ℕ) → length xs ≡ 8 → length rest ≤ k → put_mid 8 k (xs ++ rest) ys ≡ xs ++ ys
put_behind xs ys rest k len fits =
    let front = take-append-le 8 xs rest (omega arith) ∙ take_all 8 xs (omega arith) in
    let back = drop_all k (drop 8 (xs ++ rest)) (omega (arith, length-drop 8 (xs ++ rest), length-append xs rest)) in
    (λ i. front i ++ (ys ++ back i)) ∙ ap (λ zs. xs ++ zs) (append-nil ys)
