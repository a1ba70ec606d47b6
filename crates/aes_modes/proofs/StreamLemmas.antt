-- One octet more of a text, of which the last block is held.
use Rattle.std.proofs.Common.{◌≡◌, ℕ, zero, suc, ◌+◌, ◌-◌, ◌*◌, ◌≤◌, List, [], ◌∷◌, ◌++◌, length, take, drop, refl, sym, ap, ◌∙◌, arith}
use Rattle.std.proofs.lemmas.List.{drop-append-le, drop_at, length-append, length-drop, take-append-le, take_all}
use Rattle.gf_aes.specs.Cipher.{aes_encrypts, xor_lists}
use Rattle.aes_modes.specs.Modes.{blocks_before, chained, cmac_of, last_block, text_block}
use Rattle.aes_modes.specs.Streams.{MacState, state_after}

text_block-append : (text more : List ℕ) (n : ℕ) → 16 * n + 16 ≤ length text → text_block (text ++ more) n ≡ text_block text n
text_block-append text more n fits =
    ap (take 16) (drop-append-le (16 * n) text more (omega arith))
    ∙ take-append-le 16 (drop (16 * n) text) more (omega (arith, length-drop (16 * n) text))

-- what stands behind the first n blocks isn't in the chain over them
chained-append : (key text more : List ℕ) (n : ℕ) → 16 * n ≤ length text → chained key (text ++ more) n ≡ chained key text n
unfolding chained
chained-append key text more zero fits = refl
chained-append key text more (suc n) fits =
    λ i. aes_encrypts key (xor_lists (chained-append key text more n (omega arith) i) (text_block-append text more n (omega arith) i))

held_len : (text : List ℕ) → length (drop (16 * blocks_before text) text) ≡ length text - 16 * blocks_before text
held_len text = length-drop (16 * blocks_before text) text

pub same_state : (a b : MacState) → a.chain ≡ b.chain → a.held ≡ b.held → a ≡ b
same_state a b chain held = λ i. record { chain = chain i; held = held i }

-- where the held block is whole, it goes into the chain
pub put-full : (key text : List ℕ) (x : ℕ) → length (state_after key text).held ≡ 16
    → record { chain = aes_encrypts key (xor_lists (state_after key text).chain (state_after key text).held); held = x ∷ [] } ≡ state_after key (text ++ x ∷ [])
unfolding chained
put-full key text x full =
    let n : ℕ = blocks_before text in
    let more : List ℕ = text ++ x ∷ [] in
    let len : length text ≡ 16 * (n + 1) = omega (arith, held_len text, full) in
    let after : blocks_before more ≡ suc n = omega (arith, length-append text (x ∷ []), len) in
    let last : drop (16 * n) text ≡ text_block more n =
    sym (text_block-append text (x ∷ []) n (omega arith) ∙ take_all 16 (drop (16 * n) text) (omega (arith, full))) in
    let link : aes_encrypts key (xor_lists (chained key text n) (drop (16 * n) text)) ≡ chained key more (suc n) =
    λ i. aes_encrypts key (xor_lists (sym (chained-append key text (x ∷ []) n (omega arith)) i) (last i)) in
    let at : length text ≡ 16 * suc n = omega (arith, len) in
    same_state _ _ (link ∙ ap (chained key more) (sym after)) (sym (drop_at text (x ∷ []) (16 * suc n) at) ∙ ap (λ k. drop (16 * k) more) (sym after))

-- else the octet is held, too
pub put-short : (key text : List ℕ) (x : ℕ) → ¬ (length (state_after key text).held ≡ 16)
    → record { chain = (state_after key text).chain; held = (state_after key text).held ++ x ∷ [] } ≡ state_after key (text ++ x ∷ [])
put-short key text x short =
    let n : ℕ = blocks_before text in
    let more : List ℕ = text ++ x ∷ [] in
    let few : ¬ (length text - 16 * n ≡ 16) = λ e. short (held_len text ∙ e) in
    let after : blocks_before more ≡ n = omega (arith, length-append text (x ∷ []), few) in
    same_state _ _
    (sym (chained-append key text (x ∷ []) n (omega arith)) ∙ ap (chained key more) (sym after))
    (sym (drop-append-le (16 * n) text (x ∷ []) (omega arith)) ∙ ap (λ k. drop (16 * k) more) (sym after))

-- what is kept gives the code
pub code-after : (key text : List ℕ) → aes_encrypts key (xor_lists (state_after key text).chain (last_block key (state_after key text).held)) ≡ cmac_of key text
unfolding cmac_of
code-after key text = refl
