-- CMAC: the subkeys and the last block.
use Rattle.std.proofs.Common.{◌≡◌, ◌≢◌, ℕ, suc, ◌+◌, ◌-◌, ◌*◌, ◌/◌, ◌%◌, ◌^◌, ◌<◌, ◌≤◌, List, ◌∷◌, ◌++◌, length, take, drop, replicate, refl, sym, ap, ◌∙◌, arith, add-one, inl, inr}
use Rattle.std.specs.Prelude.{slice_index, slice_set, bit_xor}
use borrow.Rule.Slice.PartMut.{put_mid}
use Rattle.std.proofs.lemmas.List.{take_rest, get_or_past, get_or-set_other, get_or-set_same, set_at, length-set, drop-replicate}
use Rattle.std.proofs.lemmas.List.FromFn.{fill_by_all}
use Rattle.std.proofs.lemmas.Bool.{cases_lt, lt-ltb, le-ltb, ne_eqb}
use Rattle.std.specs.Int.Bits.{xor_zero_r}
use Rattle.gf_aes.specs.Cipher.{aes_encrypts, xor_lists}
use Rattle.aes_modes.specs.Modes.{blocks_before, chained, cmac_of, first_subkey, last_block, next_subkey, padded, second_subkey, shifted_left, text_block}

-- octet i of a block, one bit to the left
abbrev shifted_octet : List ℕ → ℕ → ℕ
shifted_octet s i = slice_index s i * 2 % 2 ^ 8 + slice_index s (i + 1) / 2 ^ 7

-- the loop writes the first 15 octets, and what follows it the last
pub shifted_left-all : (s t : List ℕ) (i : ℕ) → length s ≡ 16 → length t ≡ 16 → i ≡ 15
    → ((k : ℕ) → k < i → slice_index t k ≡ slice_index s k % 128 * 2 + slice_index s (k + 1) / 128)
    → slice_set t 15 (slice_index s 15 % 128 * 2) ≡ shifted_left s
shifted_left-all s t i len len' at done = fill_by_all (shifted_octet s) (slice_set t 15 (slice_index s 15 % 128 * 2)) 16 0 (length-set t 15 (slice_index s 15 % 128 * 2) ∙ len') each
  where
    past : slice_index s 16 ≡ 0
    past = get_or_past s 16 0 (omega arith)

    each : (k : ℕ) → k < 16 → slice_index (slice_set t 15 (slice_index s 15 % 128 * 2)) k ≡ shifted_octet s k
    each k below = elim (cases_lt k 15) [
      | inl early ↦
          let other : k ≢ 15 = omega arith in
          get_or-set_other t 15 k (slice_index s 15 % 128 * 2) 0 other ∙ done k (omega arith) ∙ omega arith
      | inr late ↦
          let last : k ≡ 15 = omega arith in
          let within : 15 < length t = omega arith in
          rw last (get_or-set_same t 15 (slice_index s 15 % 128 * 2) 0 within ∙ omega (arith, past))
    ]

pub next_subkey-low : (s : List ℕ) → slice_index s 0 < 128 → shifted_left s ≡ next_subkey s
unfolding next_subkey
next_subkey-low s h = rw (lt-ltb (slice_index s 0) 128 h) refl

pub next_subkey-high : (s : List ℕ) → 128 ≤ slice_index s 0 → slice_set (shifted_left s) 15 (bit_xor (slice_index (shifted_left s) 15) 0x87) ≡ next_subkey s
unfolding next_subkey
next_subkey-high s h = rw (le-ltb (slice_index s 0) 128 h) (simp xor_zero_r)

padded-by : (s t : List ℕ) (n : ℕ) → n ≡ length s → t ≡ 0 ∷ replicate (15 - length s) 0 → slice_set (s ++ t) n 0x80 ≡ padded s
padded-by s t n at e = rw e (set_at s 0 (replicate (15 - length s) 0) 0x80 n (sym at))

-- what `rest` and the bit behind it leave of a block of zeros
pub padded-all : (s : List ℕ) (k n : ℕ) → k ≡ length s → n ≡ length s → length s < 16 → slice_set (put_mid 0 k (replicate 16 0) s) n 0x80 ≡ padded s
padded-all s k n at at' short =
    let count : 16 - k ≡ suc (15 - length s) = omega arith in
    padded-by s (drop k (replicate 16 0)) n at' (drop-replicate k 16 0 ∙ ap (λ m. replicate m 0) count)

pub last_block-whole : (key s : List ℕ) → length s ≡ 16 → last_block key s ≡ xor_lists (first_subkey key) s
unfolding last_block
last_block-whole key s h = rw h refl

pub last_block-short : (key s : List ℕ) → (length s ≡ 16 → ⊥) → last_block key s ≡ xor_lists (second_subkey key) (padded s)
unfolding last_block
last_block-short key s h = rw (ne_eqb (length s) 16 h) refl

pub chained-more : (key m c b : List ℕ) (i : ℕ) → c ≡ chained key m i → b ≡ text_block m i → aes_encrypts key (xor_lists c b) ≡ chained key m (i + 1)
unfolding chained
chained-more key m c b i h e = (λ j. aes_encrypts key (xor_lists (h j) (e j))) ∙ ap (chained key m) (sym (add-one i))

pub cmac_of-end : (key m c l : List ℕ) (i : ℕ) → i ≡ blocks_before m → c ≡ chained key m i → l ≡ last_block key (drop (16 * i) m) → aes_encrypts key (xor_lists c l) ≡ cmac_of key m
unfolding cmac_of
cmac_of-end key m c l i at h e =
    (λ j. aes_encrypts key (xor_lists (h j) (e j))) ∙ ap (λ n. aes_encrypts key (xor_lists (chained key m n) (last_block key (drop (16 * n) m)))) at

pub shifted_left-more : (s t : List ℕ) (i : ℕ) → i < length t
    → ((k : ℕ) → k < i → slice_index t k ≡ slice_index s k % 128 * 2 + slice_index s (k + 1) / 128)
    → ((k : ℕ) → k < i + 1 → slice_index (slice_set t i (slice_index s i % 128 * 2 + slice_index s (i + 1) / 128)) k ≡ slice_index s k % 128 * 2 + slice_index s (k + 1) / 128)
shifted_left-more s t i within before k below = elim (cases_lt k i) [
  | inl early ↦
      let other : k ≢ i = omega arith in
      get_or-set_other t i k (slice_index s i % 128 * 2 + slice_index s (i + 1) / 128) 0 other ∙ before k early
  | inr late ↦
      let same : k ≡ i = omega arith in
      rw same (get_or-set_same t i (slice_index s i % 128 * 2 + slice_index s (i + 1) / 128) 0 within)
]

-- what `&m[16 * i..]` holds
pub rest-of : (m : List ℕ) (i : ℕ) → take (length m - 16 * i) (drop (16 * i) m) ≡ drop (16 * i) m
rest-of m i = take_rest m (16 * i)
