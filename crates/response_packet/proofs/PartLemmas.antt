-- A packet in its two parts: the 6 octets that never are ciphered, and the others before ciphering.
use Rattle.std.proofs.Common.{◌≡◌, ℕ, zero, suc, ◌+◌, ◌-◌, ◌<◌, ◌≤◌, List, [], ◌∷◌, ◌++◌, length, take, drop, leb, refl, sym, ap, ◌∙◌, arith}
use Rattle.std.specs.Prelude.{slice_index}
use Rattle.std.specs.Str.{bytes_eq}
use Rattle.std.proofs.Math.Seq.{drop-append-add, take-append-add}
use Rattle.std.proofs.lemmas.List.{drop_at, length-append, length-drop, length-take}
use Rattle.secured_packet.specs.Secured.{checksum_of, has_checksum}
use Rattle.response_packet.specs.Response.{user_data_header}
use Rattle.response_packet.specs.Opened.{checked_of, has_padding, is_authentic}

module _ (head rest : List ℕ) (six : length head ≡ 6) where
  taken : (n m : ℕ) → length head + n ≡ m → take m (head ++ rest) ≡ head ++ take n rest
  taken n m at = ap (λ k. take k (head ++ rest)) (sym at) ∙ take-append-add head rest n

  dropped : (n m : ℕ) → length head + n ≡ m → drop m (head ++ rest) ≡ drop n rest
  dropped n m at = ap (λ k. drop k (head ++ rest)) (sym at) ∙ drop-append-add head rest n

  checked-parts : checked_of (head ++ rest) ≡ (head ++ take 7 rest) ++ drop 15 rest
  checked-parts = λ i. taken 7 13 (omega (arith, six)) i ++ dropped 15 21 (omega (arith, six)) i

  pub authentic-parts : (kid : List ℕ) → has_checksum kid (user_data_header ++ head) 7 rest ≡ is_authentic kid (head ++ rest)
  authentic-parts kid =
      λ i. bytes_eq (ap (take 8) (sym (dropped 7 13 (omega (arith, six)))) i) (checksum_of kid (user_data_header ++ sym checked-parts i))

index-behind : (xs ys : List ℕ) (i n : ℕ) → length xs + i ≡ n → slice_index (xs ++ ys) n ≡ slice_index ys i
index-behind [] ys i n at = ap (slice_index ys) (omega (arith, at))
index-behind (x ∷ xs) ys i zero at = absurd (omega (arith, at))
index-behind (x ∷ xs) ys i (suc n) at = index-behind xs ys i n (omega (arith, at))

index-within : (xs ys : List ℕ) (i : ℕ) → i < length xs → slice_index (xs ++ ys) i ≡ slice_index xs i
index-within [] ys i below = absurd (omega arith)
index-within (x ∷ xs) ys zero below = refl
index-within (x ∷ xs) ys (suc i) below = index-within xs ys i (omega arith)

index-taken : (xs : List ℕ) (n i : ℕ) → i < n → slice_index (take n xs) i ≡ slice_index xs i
index-taken xs zero i below = absurd (omega arith)
index-taken [] (suc n) i below = refl
index-taken (x ∷ xs) (suc n) zero below = refl
index-taken (x ∷ xs) (suc n) (suc i) below = index-taken xs n i (omega arith)

module _ (head rest : List ℕ) (six : length head ≡ 6) (some : 15 ≤ length rest) where
  before-text : length (head ++ take 7 rest) ≡ 13
  before-text = omega (arith, length-append head (take 7 rest), length-take 7 rest, six)

  padding-is : slice_index (checked_of (head ++ rest)) 11 ≡ slice_index rest 5
  padding-is =
      ap (λ s. slice_index s 11) (checked-parts head rest six)
      ∙ index-within (head ++ take 7 rest) (drop 15 rest) 11 (omega (arith, before-text))
      ∙ index-behind head (take 7 rest) 5 11 (omega (arith, six))
      ∙ index-taken rest 7 5 (omega arith)

  text-len : length (drop 13 (checked_of (head ++ rest))) ≡ length rest - 15
  text-len =
      ap (λ s. length (drop 13 s)) (checked-parts head rest six)
      ∙ ap length (drop_at (head ++ take 7 rest) (drop 15 rest) 13 before-text)
      ∙ length-drop 15 rest

  pub padding-parts : leb (slice_index rest 5) (length rest - 15) ≡ has_padding (checked_of (head ++ rest))
  padding-parts = λ i. leb (sym padding-is i) (sym text-len i)
