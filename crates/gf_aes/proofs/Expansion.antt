-- The key expansion, word by word.
use Rattle.std.proofs.Common.{◌≡◌, ℕ, zero, suc, ◌+◌, ◌-◌, ◌*◌, ◌/◌, ◌%◌, ◌^◌, ◌<◌, ◌≤◌, List, [], ◌∷◌, ◌++◌, length, take, map, slice_set, refl, sym, ap, ◌∙◌, arith, add-one, append_assoc, inl, inr}
use Rattle.std.specs.Prelude.{slice_index, flat_map, bit_xor, bit_or}
use Rattle.std.specs.Int.{rotate_left, w32}
use Rattle.std.specs.List.{range_with_len}
use Rattle.std.proofs.lemmas.List.{get_or-take, length_push, take-append-le, take-take, take_all, take_more, take_more_set}
use Rattle.std.proofs.lemmas.List.FromFn.{get_or-map-range_with_len}
use Rattle.std.proofs.lemmas.Grind.{flat_map-append}
use Rattle.std.proofs.lemmas.Nat.{or_shifted, le-div, div_below}
use Rattle.std.proofs.lemmas.Bool.{cases_lt, lt-ltb, le-ltb, ne_eqb}
use Rattle.gf_aes.specs.Field.{xtime}
use Rattle.gf_aes.specs.Cipher.{IsKeyLength, IsMixed, first_words, key_step, key_words, next_word, octets, power_of_x, rot_word, round_constant, round_count, sub_word, word_of}
use Rattle.gf_aes.specs.KeySchedule.{IsExpanded}
use Rattle.gf_aes.specs.declared.key_schedule.TheConstants.{ROUND_CONSTANTS}
use Rattle.gf_aes.proofs.Words.{octets-word_of}

pub rotated : (w : ℕ) → w < 2 ^ 32 → rotate_left w32 w 8 ≡ rot_word w
unfolding rot_word
rotated w h =
    let e : w * 2 ^ 8 % 2 ^ 32 ≡ (w % 2 ^ 24) * 2 ^ 8 = omega arith in
    let high : w / 2 ^ 24 < 2 ^ 8 = omega arith in
    let joined : bit_or ((w % 2 ^ 24) * 2 ^ 8) (w / 2 ^ 24) ≡ (w % 2 ^ 24) * 2 ^ 8 + w / 2 ^ 24 = or_shifted (w % 2 ^ 24) 8 (w / 2 ^ 24) high in
    rw e (joined ∙ omega arith)

-- the table of round constants, from 1 on
constant-at : (i : ℕ) → i < 10 → slice_index ROUND_CONSTANTS (i + 1) ≡ power_of_x i
unfolding xtime power_of_x
constant-at i h =
    let all : map (λ j. slice_index ROUND_CONSTANTS (j + 1)) (range_with_len 0 10) ≡ map power_of_x (range_with_len 0 10) = refl in
    sym (get_or-map-range_with_len (λ j. slice_index ROUND_CONSTANTS (j + 1)) 0 10 i i 0 h (omega arith))
    ∙ ap (λ t. slice_index t i) all ∙ get_or-map-range_with_len power_of_x 0 10 i i 0 h (omega arith)

pub round_constant-of : (nk i : ℕ) → 4 ≤ nk → nk ≤ i → i < 11 * nk → word_of (slice_index ROUND_CONSTANTS (i / nk)) 0 0 0 ≡ round_constant (i / nk)
unfolding round_constant
round_constant-of nk i some later within =
    let low : 1 ≤ i / nk = le-div 1 i nk (omega arith) (omega arith) in
    let high : i / nk < 11 = div_below i nk 11 (omega arith) (omega arith) in
    let at : i / nk - 1 + 1 ≡ i / nk = omega arith in
    ap (λ x. word_of x 0 0 0) (ap (λ j. slice_index ROUND_CONSTANTS j) (sym at) ∙ constant-at (i / nk - 1) (omega arith))

pub key_step-first : (nk i t : ℕ) → i % nk ≡ 0 → key_step nk i t ≡ bit_xor (sub_word (rot_word t)) (round_constant (i / nk))
unfolding key_step
key_step-first nk i t h = rw h refl

pub key_step-middle : (nk i t : ℕ) → i % nk ≡ 4 → 6 < nk → key_step nk i t ≡ sub_word t
unfolding key_step
key_step-middle nk i t h long = rw (h, lt-ltb 6 nk long) refl

pub key_step-short : (nk i t : ℕ) → (i % nk ≡ 0 → ⊥) → nk ≤ 6 → key_step nk i t ≡ t
unfolding key_step
key_step-short nk i t h short = rw (ne_eqb (i % nk) 0 h, le-ltb 6 nk short) refl

pub key_step-other : (nk i t : ℕ) → (i % nk ≡ 0 → ⊥) → 6 < nk → (i % nk ≡ 4 → ⊥) → key_step nk i t ≡ t
unfolding key_step
key_step-other nk i t h long other = rw (ne_eqb (i % nk) 0 h, lt-ltb 6 nk long, ne_eqb (i % nk) 4 other) refl

pub next_word-own : (key w : List ℕ) (i : ℕ) → i < length key / 4 → next_word key w i ≡ word_of (slice_index key (4 * i)) (slice_index key (4 * i + 1)) (slice_index key (4 * i + 2)) (slice_index key (4 * i + 3))
unfolding next_word
next_word-own key w i h = rw (lt-ltb i (length key / 4) h) refl

-- a later word sees only the words before it
pub next_word-later : (key w : List ℕ) (i : ℕ) → 4 ≤ length key / 4 → length key / 4 ≤ i → next_word key (take i w) i ≡ bit_xor (slice_index w (i - length key / 4)) (key_step (length key / 4) i (slice_index w (i - 1)))
unfolding next_word
next_word-later key w i some h =
    let far : i - length key / 4 < i = omega arith in
    let near : i - 1 < i = omega arith in
    rw (le-ltb i (length key / 4) h, get_or-take i w (i - length key / 4) 0 far, get_or-take i w (i - 1) 0 near) refl

-- the expansion so far, with its next word
pub first_words-more : (key w : List ℕ) (i x : ℕ) → i < length w → take i w ≡ first_words key i → x ≡ next_word key (take i w) i → take (i + 1) (slice_set w i x) ≡ first_words key (i + 1)
unfolding first_words
first_words-more key w i x h before e =
    take_more_set w i x h ∙ (λ j. before j ++ (e ∙ ap (λ u. next_word key u i) before) j ∷ []) ∙ ap (first_words key) (sym (add-one i))

pub key_words-all : (key w : List ℕ) (n : ℕ) → n ≡ 4 * round_count key + 4 → take n w ≡ first_words key n → take (4 * round_count key + 4) w ≡ key_words key
unfolding key_words
key_words-all key w n e h = rw (← e) h

-- ---- the words begin with the key

length-first_words : (key : List ℕ) (n : ℕ) → length (first_words key n) ≡ n
unfolding first_words
length-first_words key zero = refl
length-first_words key (suc n) = omega (arith, length_push (first_words key n) (next_word key (first_words key n) n), length-first_words key n)

take-first_words : (key : List ℕ) (n j : ℕ) → j ≤ n → take j (first_words key n) ≡ first_words key j
unfolding first_words
take-first_words key zero j h =
    let none : j ≡ zero = omega arith in
    rw none refl
take-first_words key (suc n) j h = elim (cases_lt j (suc n)) [
  | inl below ↦
      take-append-le j (first_words key n) (next_word key (first_words key n) n ∷ []) (omega (arith, length-first_words key n))
      ∙ take-first_words key n j (omega arith)
  | inr above ↦
      let same : j ≡ suc n = omega arith in
      rw same (take_all (suc n) (first_words key (suc n)) (omega (arith, length-first_words key (suc n))))
]

take-four_more : (s : List ℕ) (n : ℕ) → n + 4 ≤ length s → take (n + 4) s ≡ take n s ++ (slice_index s n ∷ slice_index s (n + 1) ∷ slice_index s (n + 2) ∷ slice_index s (n + 3) ∷ [])
take-four_more s n h =
    let e3 : n + 4 ≡ n + 3 + 1 = omega arith in
    let e2 : n + 3 ≡ n + 2 + 1 = omega arith in
    let e1 : n + 2 ≡ n + 1 + 1 = omega arith in
    let t3 : take (n + 4) s ≡ take (n + 3) s ++ slice_index s (n + 3) ∷ [] = ap (λ m. take m s) e3 ∙ take_more s (n + 3) 0 (omega arith) in
    let t2 : take (n + 3) s ≡ take (n + 2) s ++ slice_index s (n + 2) ∷ [] = ap (λ m. take m s) e2 ∙ take_more s (n + 2) 0 (omega arith) in
    let t1 : take (n + 2) s ≡ take (n + 1) s ++ slice_index s (n + 1) ∷ [] = ap (λ m. take m s) e1 ∙ take_more s (n + 1) 0 (omega arith) in
    let t0 : take (n + 1) s ≡ take n s ++ slice_index s n ∷ [] = take_more s n 0 (omega arith) in
    t3 ∙ ap (λ u. u ++ slice_index s (n + 3) ∷ []) (t2 ∙ ap (λ u. u ++ slice_index s (n + 2) ∷ []) (t1 ∙ ap (λ u. u ++ slice_index s (n + 1) ∷ []) t0))
    ∙ simp append_assoc

-- the octets of the first words, as many as the key has, are the key's
octets-first_words : (key : List ℕ) (j : ℕ) → ((i : ℕ) → slice_index key i < 2 ^ 8) → j ≤ length key / 4 → flat_map octets (first_words key j) ≡ take (4 * j) key
unfolding first_words
octets-first_words key zero h l = refl
octets-first_words key (suc j) h l =
    let w : List ℕ = first_words key j in
    let own : octets (next_word key w j) ≡ slice_index key (4 * j) ∷ slice_index key (4 * j + 1) ∷ slice_index key (4 * j + 2) ∷ slice_index key (4 * j + 3) ∷ [] =
    ap octets (next_word-own key w j (omega arith)) ∙ octets-word_of _ _ _ _ (h (4 * j)) (h (4 * j + 1)) (h (4 * j + 2)) (h (4 * j + 3)) in
    let more : 4 * suc j ≡ 4 * j + 4 = omega arith in
    flat_map-append octets w (next_word key w j ∷ [])
    ∙ (λ i. octets-first_words key j h (omega arith) i ++ own i)
    ∙ sym (take-four_more key (4 * j) (omega arith)) ∙ ap (λ n. take n key) (sym more)

pub key-of_words : (key w : List ℕ) → IsKeyLength (length key) → ((i : ℕ) → slice_index key i < 2 ^ 8) → take (4 * round_count key + 4) w ≡ key_words key → flat_map octets (take (length key / 4 + 6 - 6) w) ≡ key
unfolding key_words
key-of_words key w kind h e =
    let n : ℕ = 4 * round_count key + 4 in
    let nk : length key / 4 + 6 - 6 ≡ length key / 4 = omega arith in
    let within : length key / 4 ≤ n = omega arith in
    let whole : length key ≤ 4 * (length key / 4) = omega arith in
    let own : take (length key / 4) w ≡ first_words key (length key / 4) =
    sym (take-take (length key / 4) n w within) ∙ ap (take (length key / 4)) e ∙ take-first_words key n (length key / 4) within in
    rw nk (ap (flat_map octets) own ∙ octets-first_words key (length key / 4) h (omega arith) ∙ take_all (4 * (length key / 4)) key whole)

-- the fields that `new` makes are a key's schedule
pub expanded : (key w m : List ℕ) → IsKeyLength (length key) → ((i : ℕ) → slice_index key i < 2 ^ 8) → take (4 * round_count key + 4) w ≡ key_words key → IsMixed w m (round_count key) → IsExpanded (record { rounds = round_count key; words = w; mixed = m })
expanded key w m kind h e mixed =
    record {
      some = omega arith;
      most = omega arith;
      even = omega arith;
      expanded = e ∙ ap key_words (sym (key-of_words key w kind h e));
      mixed = mixed;
    }
