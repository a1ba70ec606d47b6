-- What the fields of a key schedule make of a block, and the key expansion word by word.
use Rattle.std.proofs.Common.{◌≡◌, ℕ, zero, suc, ◌+◌, ◌-◌, ◌*◌, ◌≤◌, List, [], ◌∷◌, ◌++◌, length, take, refl, sym, ap, ◌∙◌, arith}
use Rattle.std.specs.Prelude.{flat_map}
use Rattle.std.proofs.lemmas.List.{length-take, get_or-take}
use Rattle.gf_aes.specs.declared.key_schedule.KeySchedule.TheInside.{Inside}
use Rattle.gf_aes.specs.KeySchedule.{IsExpanded, key_of}
use Rattle.gf_aes.specs.Cipher.{aes_decrypts, aes_encrypts, cipher, inverse_cipher, inverse_mix_columns, inverse_rounds, inverse_shift_rows, inverse_sub_bytes, key_words, mix_columns, octets, round_count, round_key, rounds, shift_rows, sub_bytes, xor_lists}

length-octets : (w : List ℕ) → length (flat_map octets w) ≡ 4 * length w
length-octets [] = refl
length-octets (x ∷ w) = omega (arith, length-octets w)

-- the count of rounds is that of the key
counted : (s : Inside) → IsExpanded s → length s.words ≡ 60 → s.rounds ≡ round_count (key_of s)
counted s h e =
    let len : length (take (s.rounds - 6) s.words) ≡ s.rounds - 6 = omega (arith, length-take (s.rounds - 6) s.words, h.some, h.most) in
    omega (arith, length-octets (take (s.rounds - 6) s.words), len, h.some, h.most)

-- ---- words past the last round key do not count

round_key-take : (n : ℕ) (w : List ℕ) (r : ℕ) → 4 * r + 4 ≤ n → round_key (take n w) r ≡ round_key w r
round_key-take n w r h =
    λ i. octets (get_or-take n w (4 * r) 0 (omega arith) i) ++ octets (get_or-take n w (4 * r + 1) 0 (omega arith) i)
    ++ octets (get_or-take n w (4 * r + 2) 0 (omega arith) i) ++ octets (get_or-take n w (4 * r + 3) 0 (omega arith) i)

rounds-take : (n : ℕ) (w s : List ℕ) (r : ℕ) → 4 * r + 4 ≤ n → rounds (take n w) s r ≡ rounds w s r
unfolding rounds
rounds-take n w s zero h = ap (λ k. xor_lists s k) (round_key-take n w 0 h)
rounds-take n w s (suc r) h =
    let fits : 4 * (r + 1) + 4 ≤ n = omega arith in
    λ i. xor_lists (mix_columns (shift_rows (sub_bytes (rounds-take n w s r (omega arith) i)))) (round_key-take n w (r + 1) fits i)

cipher-take : (n : ℕ) (w : List ℕ) (r : ℕ) (s : List ℕ) → 1 ≤ r → 4 * r + 4 ≤ n → cipher (take n w) r s ≡ cipher w r s
unfolding cipher
cipher-take n w r s some h =
    λ i. xor_lists (shift_rows (sub_bytes (rounds-take n w s (r - 1) (omega arith) i))) (round_key-take n w r h i)

inverse_rounds-take : (n : ℕ) (w : List ℕ) (r : ℕ) (s : List ℕ) (m : ℕ) → 4 * r + 4 ≤ n → inverse_rounds (take n w) r s m ≡ inverse_rounds w r s m
unfolding inverse_rounds
inverse_rounds-take n w r s zero h = ap (λ k. xor_lists s k) (round_key-take n w r h)
inverse_rounds-take n w r s (suc m) h =
    let fits : 4 * (r - (m + 1)) + 4 ≤ n = omega arith in
    λ i. inverse_mix_columns (xor_lists (inverse_sub_bytes (inverse_shift_rows (inverse_rounds-take n w r s m h i))) (round_key-take n w (r - (m + 1)) fits i))

inverse_cipher-take : (n : ℕ) (w : List ℕ) (r : ℕ) (s : List ℕ) → 4 * r + 4 ≤ n → inverse_cipher (take n w) r s ≡ inverse_cipher w r s
unfolding inverse_cipher
inverse_cipher-take n w r s h =
    λ i. xor_lists (inverse_sub_bytes (inverse_shift_rows (inverse_rounds-take n w r s (r - 1) h i))) (round_key-take n w 0 (omega arith) i)

-- ---- a block under the schedule of a key

pub schedule_encrypts : (s : Inside) (key block b : List ℕ) → IsExpanded s → length s.words ≡ 60 → key_of s ≡ key → b ≡ block → cipher s.words s.rounds b ≡ aes_encrypts key block
unfolding aes_encrypts
schedule_encrypts s key block b h e k f =
    let some : 1 ≤ s.rounds = omega (arith, h.some) in
    sym (cipher-take (4 * s.rounds + 4) s.words s.rounds b some (omega arith))
    ∙ (λ i. cipher (h.expanded i) (counted s h e i) (f i)) ∙ ap (λ x. cipher (key_words x) (round_count x) block) k

pub schedule_decrypts : (s : Inside) (key block b : List ℕ) → IsExpanded s → length s.words ≡ 60 → key_of s ≡ key → b ≡ block → inverse_cipher s.words s.rounds b ≡ aes_decrypts key block
unfolding aes_decrypts
schedule_decrypts s key block b h e k f =
    sym (inverse_cipher-take (4 * s.rounds + 4) s.words s.rounds b (omega arith))
    ∙ (λ i. inverse_cipher (h.expanded i) (counted s h e i) (f i)) ∙ ap (λ x. inverse_cipher (key_words x) (round_count x) block) k
