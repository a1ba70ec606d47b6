-- AES gives a block of 16 octets, whatever it is given.
use Rattle.std.proofs.Common.{◌≡◌, ℕ, ◌+◌, ◌-◌, ◌*◌, ◌/◌, ◌%◌, ◌^◌, ◌<◌, ◌≤◌, List, [], ◌∷◌, map, length, refl, arith, ◌∙◌}
use Rattle.std.specs.Prelude.{slice_index}
use Rattle.std.specs.List.{range_with_len}
use Rattle.std.specs.Int.{bit_at}
use Rattle.std.proofs.lemmas.Nat.{xor_lt}
use Rattle.gf_aes.specs.Field.{affine, affine_bit, inverse, sub_byte}
use Rattle.gf_aes.specs.Cipher.{IsBlock, aes_encrypts, cipher, key_words, round_count, round_key, rounds, shift_rows, sub_bytes, xor_lists}
use Rattle.gf_aes.proofs.Inverse.{AreOctets, aes_decrypts-aes_encrypts, length-xor_lists, places-below, round_key-below}
use Rattle.gf_aes.proofs.Linear.{slice_index-xor_lists}

bit-below : (b i : ℕ) → affine_bit b i < 2
unfolding affine_bit
bit-below b i = omega arith

-- the S-box gives an octet, whatever it is given
sub_byte-octet : (b : ℕ) → sub_byte b < 2 ^ 8
unfolding sub_byte affine
sub_byte-octet b =
    let x : ℕ = inverse b in
    omega (arith, bit-below x 0, bit-below x 1, bit-below x 2, bit-below x 3, bit-below x 4, bit-below x 5, bit-below x 6, bit-below x 7)

boxed-octets : (s : List ℕ) → AreOctets (sub_bytes s)
boxed-octets s = places-below sub_byte s sub_byte-octet

shifted-octets : (s : List ℕ) → AreOctets s → AreOctets (shift_rows s)
shifted-octets s h = places-below (λ i. slice_index s (i % 4 + 4 * ((i / 4 + i % 4) % 4))) (range_with_len 0 16) (λ i. h _)

-- the cipher ends with the S-box, ShiftRows and a round key
pub always-block : (key s : List ℕ) → IsBlock (aes_encrypts key s)
unfolding aes_encrypts cipher
always-block key s =
    let w : List ℕ = key_words key in
    let n : ℕ = round_count key in
    let before : List ℕ = sub_bytes (rounds w s (n - 1)) in
    let last : List ℕ = shift_rows before in
    let octets : AreOctets last = shifted-octets before (boxed-octets (rounds w s (n - 1))) in
    let same : length last ≡ length (round_key w n) = refl in
    let added : length (xor_lists last (round_key w n)) ≡ length last = length-xor_lists last (round_key w n) (omega arith) in (
      added,
      λ i. rw (slice_index-xor_lists last (round_key w n) i same) (xor_lt 8 (slice_index last i) (slice_index (round_key w n) i) (octets i) (round_key-below w n i)),
    )
