-- The loops of the kernel, turn by turn: four words of a round are the definition's next state.
use Rattle.std.proofs.Common.{◌≡◌, ℕ, ◌+◌, ◌-◌, ◌*◌, ◌<◌, ◌≤◌, List, [], ◌∷◌, ◌++◌, map, refl, sym, ap, ◌∙◌, arith, add-one}
use Rattle.std.specs.Prelude.{slice_index, bit_xor}
use Rattle.gf_aes.specs.Field.{sub_byte, inverse_sub_byte}
use Rattle.gf_aes.specs.Cipher.{add_round_key, block_of, cipher, diagonal, inverse_cipher, inverse_mix_column, inverse_mix_columns, inverse_rounds, inverse_shift_rows, inverse_sub_bytes, mix_column, mix_columns, octets, rounds, shift_rows, sub_bytes, xor_lists}
use Rattle.gf_aes.proofs.Words.{octets-xor}
use Rattle.gf_aes.proofs.Linear.{matrix_times-xor}

-- words plus round key words make the state plus the round key
pub block_of-add : (w : List ℕ) (r a b c d : ℕ) → block_of (bit_xor a (slice_index w (4 * r)) ∷ bit_xor b (slice_index w (4 * r + 1)) ∷ bit_xor c (slice_index w (4 * r + 2)) ∷ bit_xor d (slice_index w (4 * r + 3)) ∷ []) ≡ add_round_key w (block_of (a ∷ b ∷ c ∷ d ∷ [])) r
block_of-add w r a b c d =
    λ i. octets-xor a (slice_index w (4 * r)) i ++ octets-xor b (slice_index w (4 * r + 1)) i ++ octets-xor c (slice_index w (4 * r + 2)) i ++ octets-xor d (slice_index w (4 * r + 3)) i

-- the word of a full round
abbrev IsRoundWord : ℕ → ℕ → ℕ → ℕ → ℕ → ℕ → Type 0
IsRoundWord t a b c d k = octets t ≡ xor_lists (mix_column (map sub_byte (diagonal a b c d))) (octets k)

pub round-of : (w : List ℕ) (r a b c d ta tb tc td : ℕ)
    → IsRoundWord ta a b c d (slice_index w (4 * r))
    → IsRoundWord tb b c d a (slice_index w (4 * r + 1))
    → IsRoundWord tc c d a b (slice_index w (4 * r + 2))
    → IsRoundWord td d a b c (slice_index w (4 * r + 3))
    → block_of (ta ∷ tb ∷ tc ∷ td ∷ []) ≡ add_round_key w (mix_columns (shift_rows (sub_bytes (block_of (a ∷ b ∷ c ∷ d ∷ []))))) r
round-of w r a b c d ta tb tc td ea eb ec ed = λ i. ea i ++ eb i ++ ec i ++ ed i

abbrev IsLastWord : ℕ → ℕ → ℕ → ℕ → ℕ → ℕ → Type 0
IsLastWord t a b c d k = octets t ≡ xor_lists (map sub_byte (diagonal a b c d)) (octets k)

pub last_round-of : (w : List ℕ) (r a b c d ta tb tc td : ℕ)
    → IsLastWord ta a b c d (slice_index w (4 * r))
    → IsLastWord tb b c d a (slice_index w (4 * r + 1))
    → IsLastWord tc c d a b (slice_index w (4 * r + 2))
    → IsLastWord td d a b c (slice_index w (4 * r + 3))
    → block_of (ta ∷ tb ∷ tc ∷ td ∷ []) ≡ add_round_key w (shift_rows (sub_bytes (block_of (a ∷ b ∷ c ∷ d ∷ [])))) r
last_round-of w r a b c d ta tb tc td ea eb ec ed = λ i. ea i ++ eb i ++ ec i ++ ed i

-- one round more
pub rounds_more : (w s t u : List ℕ) (r n : ℕ) → n ≡ r + 1 → t ≡ rounds w s r → u ≡ add_round_key w (mix_columns (shift_rows (sub_bytes t))) n → u ≡ rounds w s n
unfolding rounds
rounds_more w s t u r n next before e =
    e ∙ (λ i. add_round_key w (mix_columns (shift_rows (sub_bytes (before i)))) (next i))
    ∙ ap (λ n. rounds w s n) (sym (next ∙ add-one r))

pub cipher_end : (w s t u : List ℕ) (n : ℕ) → t ≡ rounds w s (n - 1) → u ≡ add_round_key w (shift_rows (sub_bytes t)) n → u ≡ cipher w n s
unfolding cipher
cipher_end w s t u n before e = e ∙ ap (λ v. add_round_key w (shift_rows (sub_bytes v)) n) before

-- the word of a full round of the equivalent inverse cipher, with the mixed word m of k
abbrev IsInverseWord : ℕ → ℕ → ℕ → ℕ → ℕ → ℕ → Type 0
IsInverseWord t a b c d m = octets t ≡ xor_lists (inverse_mix_column (map inverse_sub_byte (diagonal a b c d))) (octets m)

-- a mixed column plus a mixed word is the sum, mixed
mixed-sum : (t a b c d m k : ℕ) → IsInverseWord t a b c d m → octets m ≡ inverse_mix_column (octets k)
    → octets t ≡ inverse_mix_column (xor_lists (map inverse_sub_byte (diagonal a b c d)) (octets k))
mixed-sum t a b c d m k e f =
    e ∙ ap (λ u. xor_lists (inverse_mix_column (map inverse_sub_byte (diagonal a b c d))) u) f
    ∙ sym (matrix_times-xor 0x0E 0x0B 0x0D 0x09 (map inverse_sub_byte (diagonal a b c d)) (octets k) refl)

pub inverse_rounds_more : (w m s : List ℕ) (n r k a b c d ta tb tc td : ℕ) → block_of (a ∷ b ∷ c ∷ d ∷ []) ≡ inverse_rounds w n s r
    → k ≡ 4 * (n - (r + 1))
    → ((i : ℕ) → k ≤ i → i < k + 4 → octets (slice_index m i) ≡ inverse_mix_column (octets (slice_index w i)))
    → IsInverseWord ta a d c b (slice_index m k)
    → IsInverseWord tb b a d c (slice_index m (k + 1))
    → IsInverseWord tc c b a d (slice_index m (k + 2))
    → IsInverseWord td d c b a (slice_index m (k + 3))
    → block_of (ta ∷ tb ∷ tc ∷ td ∷ []) ≡ inverse_rounds w n s (r + 1)
unfolding inverse_rounds
inverse_rounds_more w m s n r k a b c d ta tb tc td before at mixed ea eb ec ed =
    let fa = mixed-sum ta a d c b (slice_index m k) (slice_index w k) ea (mixed k (omega arith) (omega arith)) in
    let fb = mixed-sum tb b a d c (slice_index m (k + 1)) (slice_index w (k + 1)) eb (mixed (k + 1) (omega arith) (omega arith)) in
    let fc = mixed-sum tc c b a d (slice_index m (k + 2)) (slice_index w (k + 2)) ec (mixed (k + 2) (omega arith) (omega arith)) in
    let fd = mixed-sum td d c b a (slice_index m (k + 3)) (slice_index w (k + 3)) ed (mixed (k + 3) (omega arith) (omega arith)) in
    let key : List ℕ → ℕ → List ℕ = λ u j. inverse_mix_columns (xor_lists (inverse_sub_bytes (inverse_shift_rows u)) (octets (slice_index w j) ++ octets (slice_index w (j + 1)) ++ octets (slice_index w (j + 2)) ++ octets (slice_index w (j + 3)))) in
    (λ i. fa i ++ fb i ++ fc i ++ fd i)
    ∙ (λ i. key (before i) (at i))
    ∙ ap (λ x. inverse_rounds w n s x) (sym (add-one r))

abbrev IsInverseLastWord : ℕ → ℕ → ℕ → ℕ → ℕ → ℕ → Type 0
IsInverseLastWord t a b c d k = octets t ≡ xor_lists (map inverse_sub_byte (diagonal a b c d)) (octets k)

pub inverse_cipher_end : (w s : List ℕ) (n a b c d ta tb tc td : ℕ) → block_of (a ∷ b ∷ c ∷ d ∷ []) ≡ inverse_rounds w n s (n - 1)
    → IsInverseLastWord ta a d c b (slice_index w 0)
    → IsInverseLastWord tb b a d c (slice_index w 1)
    → IsInverseLastWord tc c b a d (slice_index w 2)
    → IsInverseLastWord td d c b a (slice_index w 3)
    → block_of (ta ∷ tb ∷ tc ∷ td ∷ []) ≡ inverse_cipher w n s
unfolding inverse_cipher
inverse_cipher_end w s n a b c d ta tb tc td before ea eb ec ed =
    (λ i. ea i ++ eb i ++ ec i ++ ed i) ∙ ap (λ u. add_round_key w (inverse_sub_bytes (inverse_shift_rows u)) 0) before
