-- Numbers in fields, checksums, padding and whole blocks.
use Rattle.std.proofs.Common.{◌≡◌, ℕ, ◌+◌, ◌/◌, ◌%◌, ◌^◌, ◌<◌, ◌≤◌, Bool, true, false, ◌||◌, not, eqb, List, [], ◌∷◌, ◌++◌, replicate, refl, sym, ap, ◌∙◌, arith}
use Rattle.std.specs.Int.{bytes_high_first, from_be_bytes, to_be_bytes, w64}
use Rattle.std.specs.Str.{bytes_eq}
use Rattle.std.proofs.lemmas.Nat.{from_be_bytes-to_be_bytes_2, from_be_bytes-to_be_bytes_8}
use Rattle.std.proofs.lemmas.Bool.{eq-eqb, not_from_false, or_left, or_right}
use Rattle.secured_packet.specs.Secured.{five, number_of_five, number_of_two, padding_len, two}

-- ---- numbers

pub number_of_two-two : (n : ℕ) → n < 2 ^ 16 → number_of_two (two n) ≡ n
unfolding number_of_two two
number_of_two-two n below = from_be_bytes-to_be_bytes_2 n below

high_zeros : (n : ℕ) → n < 2 ^ 40 → to_be_bytes w64 n ≡ replicate 3 0 ++ bytes_high_first 5 n
high_zeros n below =
    let a : n / 72057594037927936 % 256 ≡ 0 = omega arith in
    let b : n / 281474976710656 % 256 ≡ 0 = omega arith in
    let c : n / 1099511627776 % 256 ≡ 0 = omega arith in
    λ i. a i ∷ b i ∷ c i ∷ bytes_high_first 5 n

pub number_of_five-five : (n : ℕ) → n < 2 ^ 40 → number_of_five (five n) ≡ n
unfolding number_of_five five
number_of_five-five n below = ap (from_be_bytes w64) (sym (high_zeros n below)) ∙ from_be_bytes-to_be_bytes_8 n (omega arith)

-- ---- checksums

pub bytes_eq-same : (s : List ℕ) → bytes_eq s s ≡ true
bytes_eq-same [] = refl
bytes_eq-same (x ∷ s) = rw (eq-eqb x x refl) (bytes_eq-same s)

-- ---- padding

pub whole_blocks : (ciphered : Bool) (len : ℕ) → ciphered ≡ true → (len + padding_len ciphered len) % 16 ≡ 0
whole_blocks true len is = omega arith
whole_blocks false len is = cc

pub padding-few : (ciphered : Bool) (len : ℕ) → padding_len ciphered len ≤ 15
padding-few true len = omega arith
padding-few false len = omega arith

pub blocks : (ciphered says : Bool) (left : ℕ) → says ≡ ciphered → (ciphered ≡ true → left ≡ 0) → (not says || eqb left 0) ≡ true
blocks true says left is whole = or_right (not says) (eqb left 0) (eq-eqb left 0 (whole refl))
blocks false says left is whole = or_left (not says) (eqb left 0) (not_from_false says is)
