-- The first block of ciphered octets, deciphered by itself.
use Rattle.std.proofs.Common.{◌≡◌, ℕ, zero, suc, ◌-◌, ◌/◌, ◌≤◌, List, [], ◌∷◌, length, take, refl, sym, ap, ◌∙◌, arith}
use Rattle.std.proofs.lemmas.List.{length-append, length-take, take-append-le, take-take, take_all}
use Rattle.std.specs.Prelude.{slice_index}
use Rattle.gf_aes.specs.Cipher.{aes_decrypts, xor_lists}
use Rattle.aes_modes.specs.Modes.{cbc_plain_of, plain_block, plain_blocks, zero_block}

module _ (key m : List ℕ) (some : 16 ≤ length m) where
  same_block : plain_block key (take 16 m) 0 ≡ plain_block key m 0
  same_block = ap (λ block. xor_lists (aes_decrypts key block) zero_block) (take-take 16 16 m (omega arith))

  pub alone : cbc_plain_of key (take 16 m) ≡ plain_block key m 0
  unfolding cbc_plain_of plain_blocks
  alone =
      let one : length (take 16 m) / 16 ≡ 1 = omega (arith, length-take 16 m, some) in
      ap (plain_blocks key (take 16 m)) one ∙ same_block

  long : (n : ℕ) → length (plain_block key m 0) ≡ 16 → 16 ≤ length (plain_blocks key m (suc n))
  unfolding plain_blocks
  long zero whole = omega (arith, whole)
  long (suc n) whole = omega (arith, long n whole, length-append (plain_blocks key m (suc n)) (plain_block key m (suc n)))

  first-is : (n : ℕ) → length (plain_block key m 0) ≡ 16 → take 16 (plain_blocks key m (suc n)) ≡ plain_block key m 0
  unfolding plain_blocks
  first-is zero whole = take_all 16 (plain_block key m 0) (omega (arith, whole))
  first-is (suc n) whole = take-append-le 16 (plain_blocks key m (suc n)) (plain_block key m (suc n)) (long n whole) ∙ first-is n whole

  first_of_all : length (plain_block key m 0) ≡ 16 → take 16 (cbc_plain_of key m) ≡ plain_block key m 0
  unfolding cbc_plain_of
  first_of_all whole =
      let n : ℕ = length m / 16 - 1 in
      let at : length m / 16 ≡ suc n = omega (arith, some) in
      ap (λ k. take 16 (plain_blocks key m k)) at ∙ first-is n whole

  -- its first octets are those of all, deciphered together
  pub first_octets : (n : ℕ) → n ≤ 16 → length (plain_block key m 0) ≡ 16 → take n (plain_block key m 0) ≡ take n (cbc_plain_of key m)
  first_octets n below whole = ap (take n) (sym (first_of_all whole)) ∙ take-take n 16 (cbc_plain_of key m) below

pub first_five : (s : List ℕ) → length s ≡ 16 → slice_index s 0 ∷ slice_index s 1 ∷ slice_index s 2 ∷ slice_index s 3 ∷ slice_index s 4 ∷ [] ≡ take 5 s
first_five (a ∷ b ∷ c ∷ d ∷ e ∷ s) len = refl
first_five [] len = absurd (omega (arith, len))
first_five (a ∷ []) len = absurd (omega (arith, len))
first_five (a ∷ b ∷ []) len = absurd (omega (arith, len))
first_five (a ∷ b ∷ c ∷ []) len = absurd (omega (arith, len))
first_five (a ∷ b ∷ c ∷ d ∷ []) len = absurd (omega (arith, len))
