-- A packet in its two parts: the 10 octets that never are ciphered, and the others before ciphering.
use Rattle.std.proofs.Common.{◌≡◌, ℕ, zero, suc, ◌+◌, ◌-◌, ◌<◌, ◌≤◌, Bool, List, [], ◌∷◌, ◌++◌, length, take, drop, leb, refl, sym, ap, ◌∙◌, arith}
use Rattle.std.specs.Prelude.{slice_index}
use Rattle.std.specs.Str.{bytes_eq}
use Rattle.std.proofs.Math.Seq.{drop-append-add, take-append-add}
use Rattle.std.proofs.lemmas.List.{drop_at, length-append, length-drop, length-take}
use Rattle.secured_packet.specs.Secured.{checksum_of, has_checksum}
use Rattle.command_packet.specs.Carried.{checked_of, has_padding, is_authentic}

module _ (head rest : List ℕ) (ten : length head ≡ 10) where
  taken : (n m : ℕ) → length head + n ≡ m → take m (head ++ rest) ≡ head ++ take n rest
  taken n m at = ap (λ k. take k (head ++ rest)) (sym at) ∙ take-append-add head rest n

  dropped : (n m : ℕ) → length head + n ≡ m → drop m (head ++ rest) ≡ drop n rest
  dropped n m at = ap (λ k. drop k (head ++ rest)) (sym at) ∙ drop-append-add head rest n

  checked-parts : checked_of (head ++ rest) ≡ (head ++ take 6 rest) ++ drop 14 rest
  checked-parts = λ i. taken 6 16 (omega (arith, ten)) i ++ dropped 14 24 (omega (arith, ten)) i

  pub authentic-parts : (kid : List ℕ) → has_checksum kid head 6 rest ≡ is_authentic kid (head ++ rest)
  authentic-parts kid =
      λ i. bytes_eq (ap (take 8) (sym (dropped 6 16 (omega (arith, ten)))) i) (checksum_of kid (sym checked-parts i))

index-behind : (xs ys : List ℕ) (i n : ℕ) → length xs + i ≡ n → slice_index (xs ++ ys) n ≡ slice_index ys i
index-behind [] ys i n at = ap (slice_index ys) (omega (arith, at))
index-behind (x ∷ xs) ys i zero at = absurd (omega (arith, at))
index-behind (x ∷ xs) ys i (suc n) at = index-behind xs ys i n (omega (arith, at))

index-within : (xs ys : List ℕ) (i : ℕ) → i < length xs → slice_index (xs ++ ys) i ≡ slice_index xs i
index-within [] ys i below = absurd (omega arith)
index-within (x ∷ xs) ys zero below = refl
index-within (x ∷ xs) ys (suc i) below = index-within xs ys i (omega arith)

index-taken : (xs : List ℕ) (n i : ℕ) → i < n → slice_index (take n xs) i ≡ slice_index xs i
index-taken xs zero i below = absurd (omega arith)
index-taken [] (suc n) i below = refl
index-taken (x ∷ xs) (suc n) zero below = refl
index-taken (x ∷ xs) (suc n) (suc i) below = index-taken xs n i (omega arith)

module _ (head rest : List ℕ) (ten : length head ≡ 10) (some : 14 ≤ length rest) where
  before-text : length (head ++ take 6 rest) ≡ 16
  before-text = omega (arith, length-append head (take 6 rest), length-take 6 rest, ten)

  padding-is : slice_index (checked_of (head ++ rest)) 15 ≡ slice_index rest 5
  padding-is =
      ap (λ s. slice_index s 15) (checked-parts head rest ten)
      ∙ index-within (head ++ take 6 rest) (drop 14 rest) 15 (omega (arith, before-text))
      ∙ index-behind head (take 6 rest) 5 15 (omega (arith, ten))
      ∙ index-taken rest 6 5 (omega arith)

  text-len : length (drop 16 (checked_of (head ++ rest))) ≡ length rest - 14
  text-len =
      ap (λ s. length (drop 16 s)) (checked-parts head rest ten)
      ∙ ap length (drop_at (head ++ take 6 rest) (drop 14 rest) 16 before-text)
      ∙ length-drop 14 rest

  pub padding-parts : leb (slice_index rest 5) (length rest - 14) ≡ has_padding (checked_of (head ++ rest))
  padding-parts = λ i. leb (sym padding-is i) (sym text-len i)
