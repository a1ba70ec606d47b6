-- The first plain block, and what stands behind it.
use Rattle.std.proofs.Common.{◌≡◌, ℕ, zero, suc, ◌+◌, ◌-◌, ◌*◌, ◌/◌, ◌<◌, ◌≤◌, List, [], ◌∷◌, ◌++◌, length, take, drop, refl, sym, ap, ◌∙◌, arith, add-one}
use Rattle.std.specs.Prelude.{slice_index}
use Rattle.std.specs.Str.{bytes_eq}
use Rattle.std.proofs.lemmas.List.{drop-append-le, length-append, length-drop, take-append-drop, take-append-le, take_all}
use Rattle.aes_modes.specs.Modes.{cbc_plain_of, plain_block, plain_blocks}
use Rattle.secured_packet.specs.Secured.{checksum_of, has_checksum}

module _ (key m : List ℕ) (whole : length (plain_block key m 0) ≡ 16) where
  long : (n : ℕ) → 16 ≤ length (plain_blocks key m (suc n))
  unfolding plain_blocks
  long zero = omega (arith, whole)
  long (suc n) = omega (arith, long n, length-append (plain_blocks key m (suc n)) (plain_block key m (suc n)))

  first-is : (n : ℕ) → take 16 (plain_blocks key m (suc n)) ≡ plain_block key m 0
  unfolding plain_blocks
  first-is zero = take_all 16 (plain_block key m 0) (omega (arith, whole))
  first-is (suc n) = take-append-le 16 (plain_blocks key m (suc n)) (plain_block key m (suc n)) (long n) ∙ first-is n

  pub none_later : drop 16 (plain_blocks key m 1) ≡ []
  unfolding plain_blocks
  none_later = none (plain_block key m 0) whole
    where
      none : (s : List ℕ) → length s ≡ 16 → drop 16 s ≡ []
      none s len = empty (drop 16 s) (omega (arith, length-drop 16 s, len))
        where
          empty : (t : List ℕ) → length t ≡ 0 → t ≡ []
          empty [] e = refl
          empty (x ∷ t) e = absurd (omega (arith, e))

  -- one block more
  pub later-more : (i : ℕ) → 1 ≤ i → drop 16 (plain_blocks key m (i + 1)) ≡ drop 16 (plain_blocks key m i) ++ plain_block key m i
  unfolding plain_blocks
  later-more zero above = absurd (omega arith)
  later-more (suc n) above =
      ap (λ k. drop 16 (plain_blocks key m k)) (add-one (suc n))
      ∙ drop-append-le 16 (plain_blocks key m (suc n)) (plain_block key m (suc n)) (long n)

  pub one_long : length (plain_blocks key m 1) ≡ 16 * 1
  unfolding plain_blocks
  one_long = whole

  -- the plain text is the first block and what stands behind it
  pub parted : 16 ≤ length m → cbc_plain_of key m ≡ plain_block key m 0 ++ drop 16 (cbc_plain_of key m)
  unfolding cbc_plain_of
  parted some =
      let n : ℕ = length m / 16 - 1 in
      let at : length m / 16 ≡ suc n = omega arith in
      let p : List ℕ = plain_blocks key m (length m / 16) in
      let first : take 16 p ≡ plain_block key m 0 = ap (λ k. take 16 (plain_blocks key m k)) at ∙ first-is n in
      sym (take-append-drop 16 p) ∙ ap (λ s. s ++ drop 16 p) first

-- ---- a first block of 16 octets and others

module _ (first others : List ℕ) (front : ℕ) (whole : length first ≡ 16) (few : front ≤ 8) where
  front-first : take front (first ++ others) ≡ take front first
  front-first = take-append-le front first others (omega (arith, whole))

  behind-first : drop (front + 8) (first ++ others) ≡ drop (front + 8) first ++ others
  behind-first = drop-append-le (front + 8) first others (omega (arith, whole))

  code-first : take 8 (drop front (first ++ others)) ≡ take 8 (drop front first)
  code-first =
      ap (take 8) (drop-append-le front first others (omega (arith, whole)))
      ∙ take-append-le 8 (drop front first) others (omega (arith, whole, length-drop front first))

  pub checksum-first : (kid before : List ℕ)
      → bytes_eq (take 8 (drop front first)) (checksum_of kid (((before ++ take front first) ++ drop (front + 8) first) ++ others)) ≡ has_checksum kid before front (first ++ others)
  checksum-first kid before =
      λ i. bytes_eq (sym code-first i) (checksum_of kid ((ap (λ s. s ++ others) refl ∙ append-three before (take front first) (drop (front + 8) first) others
      ∙ (λ j. (before ++ sym front-first j) ++ sym behind-first j)) i))
    where
      append-assoc' : (a b c : List ℕ) → (a ++ b) ++ c ≡ a ++ (b ++ c)
      append-assoc' [] b c = refl
      append-assoc' (x ∷ a) b c = ap (λ s. x ∷ s) (append-assoc' a b c)

      append-three : (a b c d : List ℕ) → ((a ++ b) ++ c) ++ d ≡ (a ++ b) ++ (c ++ d)
      append-three a b c d = append-assoc' (a ++ b) c d

index-first : (first others : List ℕ) (i : ℕ) → i < length first → slice_index (first ++ others) i ≡ slice_index first i
index-first [] others i below = absurd (omega arith)
index-first (x ∷ first) others zero below = refl
index-first (x ∷ first) others (suc i) below = index-first first others i (omega arith)

pub padding-first : (first others : List ℕ) → length first ≡ 16 → slice_index (first ++ others) 5 ≡ slice_index first 5
padding-first first others whole = index-first first others 5 (omega (arith, whole))

pub more_long : (key m : List ℕ) (i : ℕ) → length (plain_blocks key m i) ≡ 16 * i → length (plain_block key m i) ≡ 16 → length (plain_blocks key m (i + 1)) ≡ 16 * (i + 1)
unfolding plain_blocks
more_long key m i before whole =
    ap (λ k. length (plain_blocks key m k)) (add-one i)
    ∙ omega (arith, length-append (plain_blocks key m i) (plain_block key m i), before, whole)

pub all_blocks : (key m : List ℕ) (i : ℕ) → i ≡ length m / 16 → plain_blocks key m i ≡ cbc_plain_of key m
unfolding cbc_plain_of
all_blocks key m i at = ap (plain_blocks key m) at

pub append-none : (s : List ℕ) → s ++ [] ≡ s
append-none [] = refl
append-none (x ∷ s) = ap (λ t. x ∷ t) (append-none s)

pub append-thrice : (a b c : List ℕ) → (a ++ b) ++ c ≡ a ++ (b ++ c)
append-thrice [] b c = refl
append-thrice (x ∷ a) b c = ap (λ s. x ∷ s) (append-thrice a b c)
