-- CBC, block by block, and that decrypting undoes encrypting.
use Rattle.std.proofs.Common.{◌≡◌, ℕ, zero, suc, ◌+◌, ◌*◌, ◌/◌, ◌%◌, ◌<◌, ◌≤◌, List, [], ◌∷◌, ◌++◌, length, take, drop, replicate, refl, sym, ap, ◌∙◌, arith, add-one, inl, inr}
use borrow.Rule.Slice.PartMut.{put_mid}
use Rattle.std.proofs.lemmas.Slice.{take-put_mid, drop-put_mid}
use Rattle.std.proofs.lemmas.List.{drop-append-le, drop-drop, drop_at, length-drop, length-take, take-append-le, take_all, length-append}
use Rattle.std.proofs.Math.Seq.{take-add}
use Rattle.std.proofs.lemmas.Nat.{xor_comm}
use Rattle.std.proofs.lemmas.Bool.{cases_lt}
use Rattle.gf_aes.specs.Cipher.{IsBlock, aes_decrypts, aes_encrypts, xor_lists}
use Rattle.gf_aes.proofs.Blocks.{always-block}
use Rattle.gf_aes.proofs.Inverse.{IsBlock-aes_encrypts, IsBlock-xor_lists, aes_decrypts-aes_encrypts, xor_lists-twice}
use Rattle.aes_modes.specs.Modes.{AreOctets, block_before, cbc_blocks, cbc_of, cbc_plain_of, chained, plain_block, plain_blocks, text_block, zero_block}

-- ---- the loops

-- m is encrypted as far as block i: s begins with its first cipher blocks, c is the last of them
pub record IsEncryptedTo (key m c s : List ℕ) (i : ℕ) : Type 0 where
  pub chain : c ≡ chained key m i
  pub done : take (16 * i) s ≡ cbc_blocks key m i
  pub rest : drop (16 * i) s ≡ drop (16 * i) m

-- m is decrypted as far as block i, and b is the cipher block before that
pub record IsDecryptedTo (key m b s : List ℕ) (i : ℕ) : Type 0 where
  pub before : b ≡ block_before m i
  pub done : take (16 * i) s ≡ plain_blocks key m i
  pub rest : drop (16 * i) s ≡ drop (16 * i) m

pub encrypted-none : (key m : List ℕ) → IsEncryptedTo key m zero_block m 0
unfolding chained cbc_blocks
encrypted-none key m = record { chain = refl; done = refl; rest = refl }

pub decrypted-none : (key m : List ℕ) → IsDecryptedTo key m zero_block m 0
unfolding plain_blocks
decrypted-none key m = record { before = refl; done = refl; rest = refl }

-- after block i is written, what is past it is as before
rest-more : (m s b : List ℕ) (i k : ℕ) → k ≡ 16 → 16 * i + 16 ≤ length s → length b ≡ 16 → drop (16 * i) s ≡ drop (16 * i) m → drop (16 * (i + 1)) (put_mid (16 * i) k s b) ≡ drop (16 * (i + 1)) m
rest-more m s b i k size fits len rest =
    let next : 16 * i + 16 ≡ 16 * (i + 1) = omega arith in
    drop-put_mid (16 * i) k s b (16 * (i + 1)) (omega arith) (omega arith) (omega arith)
    ∙ ap (λ n. drop n s) (sym next) ∙ sym (drop-drop 16 (16 * i) s) ∙ ap (drop 16) rest ∙ drop-drop 16 (16 * i) m ∙ ap (λ n. drop n m) next

-- the block that is read there is the text's
read-block : (m s : List ℕ) (i k : ℕ) → k ≡ 16 → drop (16 * i) s ≡ drop (16 * i) m → take k (drop (16 * i) s) ≡ text_block m i
read-block m s i k size rest = λ j. take (size j) (rest j)

pub encrypted-more : (key m c s c' b : List ℕ) (i k : ℕ) → k ≡ 16 → 16 * i + 16 ≤ length s → IsEncryptedTo key m c s i → b ≡ take k (drop (16 * i) s) → c' ≡ aes_encrypts key (xor_lists c b) → length c' ≡ 16 → IsEncryptedTo key m c' (put_mid (16 * i) k s c') (i + 1)
unfolding chained cbc_blocks
encrypted-more key m c s c' b i k size fits before read made len =
    let chain : c' ≡ chained key m (i + 1) =
    made ∙ (λ j. aes_encrypts key (xor_lists (before.chain j) ((read ∙ read-block m s i k size before.rest) j)))
    ∙ ap (chained key m) (sym (add-one i)) in
    record {
      chain = chain;
      done = take-put_mid (16 * i) k s c' (16 * (i + 1)) (omega arith) (omega arith) ∙ (λ j. before.done j ++ chain j)
          ∙ ap (cbc_blocks key m) (sym (add-one i));
      rest = rest-more m s c' i k size fits len before.rest;
    }

pub decrypted-more : (key m e s p b : List ℕ) (i k : ℕ) → k ≡ 16 → 16 * i + 16 ≤ length s → IsDecryptedTo key m b s i → e ≡ take k (drop (16 * i) s) → p ≡ xor_lists (aes_decrypts key e) b → length p ≡ 16 → IsDecryptedTo key m e (put_mid (16 * i) k s p) (i + 1)
unfolding plain_blocks
decrypted-more key m e s p b i k size fits before read made len =
    let block : e ≡ text_block m i = read ∙ read-block m s i k size before.rest in
    let plain : p ≡ plain_block key m i = made ∙ (λ j. xor_lists (aes_decrypts key (block j)) (before.before j)) in
    record {
      before = block ∙ ap (block_before m) (sym (add-one i));
      done = take-put_mid (16 * i) k s p (16 * (i + 1)) (omega arith) (omega arith) ∙ (λ j. before.done j ++ plain j)
          ∙ ap (plain_blocks key m) (sym (add-one i));
      rest = rest-more m s p i k size fits len before.rest;
    }

pub encrypted-all : (key m c s : List ℕ) (i : ℕ) → IsEncryptedTo key m c s i → i ≡ length m / 16 → length m % 16 ≡ 0 → length s ≡ length m → s ≡ cbc_of key m
unfolding cbc_of
encrypted-all key m c s i h at whole len = sym (take_all (16 * i) s (omega arith)) ∙ h.done ∙ ap (cbc_blocks key m) at

pub decrypted-all : (key m b s : List ℕ) (i : ℕ) → IsDecryptedTo key m b s i → i ≡ length m / 16 → length m % 16 ≡ 0 → length s ≡ length m → s ≡ cbc_plain_of key m
unfolding cbc_plain_of
decrypted-all key m b s i h at whole len = sym (take_all (16 * i) s (omega arith)) ∙ h.done ∙ ap (plain_blocks key m) at

-- ---- decrypting undoes

take-below : (n : ℕ) (s : List ℕ) → AreOctets s → AreOctets (take n s)
take-below zero s h i = omega arith
take-below (suc n) [] h i = omega arith
take-below (suc n) (x ∷ s) h zero = h 0
take-below (suc n) (x ∷ s) h (suc i) = take-below n s (λ j. h (suc j)) i

drop-below : (n : ℕ) (s : List ℕ) → AreOctets s → AreOctets (drop n s)
drop-below zero s h i = h i
drop-below (suc n) [] h i = omega arith
drop-below (suc n) (x ∷ s) h i = drop-below n s (λ j. h (suc j)) i

text_block-IsBlock : (m : List ℕ) (i : ℕ) → AreOctets m → 16 * i + 16 ≤ length m → IsBlock (text_block m i)
text_block-IsBlock m i h fits = (
  omega (arith, length-take 16 (drop (16 * i) m), length-drop (16 * i) m),
  take-below 16 (drop (16 * i) m) (drop-below (16 * i) m h),
)

zeros-below : (n : ℕ) → AreOctets (replicate n 0)
zeros-below zero i = omega arith
zeros-below (suc n) zero = omega arith
zeros-below (suc n) (suc i) = zeros-below n i

chained-IsBlock : (key m : List ℕ) (n : ℕ) → AreOctets m → 16 * n ≤ length m → IsBlock (chained key m n)
unfolding chained
chained-IsBlock key m zero h fits = (refl, zeros-below 16)
chained-IsBlock key m (suc n) h fits =
    IsBlock-aes_encrypts key (xor_lists (chained key m n) (text_block m n)) (
    IsBlock-xor_lists (chained key m n) (text_block m n) (chained-IsBlock key m n h (omega arith)) (text_block-IsBlock m n h (omega arith))
    )

length-chained : (key m : List ℕ) (n : ℕ) → length (chained key m n) ≡ 16
unfolding chained
length-chained key m zero = refl
length-chained key m (suc n) = (always-block key (xor_lists (chained key m n) (text_block m n))).0

pub length-cbc_blocks : (key m : List ℕ) (n : ℕ) → length (cbc_blocks key m n) ≡ 16 * n
unfolding cbc_blocks
length-cbc_blocks key m zero = refl
length-cbc_blocks key m (suc n) =
    omega (arith, length-append (cbc_blocks key m n) (chained key m (n + 1)), length-cbc_blocks key m n, length-chained key m (n + 1))

-- CBC keeps the length of a text of whole blocks
pub length-cbc_of : (key m : List ℕ) → length m % 16 ≡ 0 → length (cbc_of key m) ≡ length m
unfolding cbc_of
length-cbc_of key m whole = omega (arith, length-cbc_blocks key m (length m / 16), whole)

-- each block of the cipher text is a link of the chain
text_block-cbc_blocks : (key m : List ℕ) (n i : ℕ) → AreOctets m → 16 * n ≤ length m → i < n → text_block (cbc_blocks key m n) i ≡ chained key m (i + 1)
unfolding cbc_blocks
text_block-cbc_blocks key m zero i h fits below = absurd (omega arith)
text_block-cbc_blocks key m (suc n) i h fits below =
    let c : List ℕ = cbc_blocks key m n in
    let x : List ℕ = chained key m (n + 1) in
    let next : 16 * (n + 1) ≤ length m = omega arith in
    let len : length c ≡ 16 * n = length-cbc_blocks key m n in
    let last : length x ≡ 16 = (chained-IsBlock key m (n + 1) h next).0 in
    elim (cases_lt i n) [
      | inl earlier ↦
          ap (take 16) (drop-append-le (16 * i) c x (omega arith))
          ∙ take-append-le 16 (drop (16 * i) c) x (omega (arith, length-drop (16 * i) c))
          ∙ text_block-cbc_blocks key m n i h (omega arith) earlier
      | inr later ↦
          let same : i ≡ n = omega arith in
          rw same (ap (take 16) (drop_at c x (16 * n) len) ∙ take_all 16 x (omega arith))
    ]

xor_lists-comm : (s t : List ℕ) → xor_lists s t ≡ xor_lists t s
xor_lists-comm [] [] = refl
xor_lists-comm [] (y ∷ t) = refl
xor_lists-comm (x ∷ s) [] = refl
xor_lists-comm (x ∷ s) (y ∷ t) = λ i. xor_comm x y i ∷ xor_lists-comm s t i

-- the cipher block before block i of the cipher text is the link before it
block_before-cbc_blocks : (key m : List ℕ) (n i : ℕ) → AreOctets m → 16 * n ≤ length m → i < n → block_before (cbc_blocks key m n) i ≡ chained key m i
unfolding chained
block_before-cbc_blocks key m n zero h fits below = refl
block_before-cbc_blocks key m n (suc i) h fits below =
    text_block-cbc_blocks key m n i h fits (omega arith) ∙ ap (chained key m) (add-one i)

chained-next : (key m : List ℕ) (i : ℕ) → chained key m (i + 1) ≡ aes_encrypts key (xor_lists (chained key m i) (text_block m i))
unfolding chained
chained-next key m i = ap (chained key m) (add-one i)

plain_block-cbc_blocks : (key m : List ℕ) (n i : ℕ) → AreOctets m → 16 * n ≤ length m → i < n → plain_block key (cbc_blocks key m n) i ≡ text_block m i
plain_block-cbc_blocks key m n i h fits below =
    let c : List ℕ = chained key m i in
    let b : List ℕ = text_block m i in
    let of_c : IsBlock c = chained-IsBlock key m i h (omega arith) in
    let of_b : IsBlock b = text_block-IsBlock m i h (omega arith) in
    let len : length c ≡ 16 = of_c.0 in
    let len' : length b ≡ 16 = of_b.0 in
    (λ j. xor_lists (aes_decrypts key ((text_block-cbc_blocks key m n i h fits below ∙ chained-next key m i) j)) (block_before-cbc_blocks key m n i h fits below j))
    ∙ ap (λ s. xor_lists s c) (aes_decrypts-aes_encrypts key (xor_lists c b) (IsBlock-xor_lists c b of_c of_b) ∙ xor_lists-comm c b)
    ∙ xor_lists-twice b c (omega arith)

take-blocks : (m : List ℕ) (n : ℕ) → take (16 * n) m ++ text_block m n ≡ take (16 * (n + 1)) m
take-blocks m n =
    let next : 16 * n + 16 ≡ 16 * (n + 1) = omega arith in
    sym (take-add (16 * n) 16 m) ∙ ap (λ k. take k m) next

plain_blocks-cbc_blocks : (key m : List ℕ) (n i : ℕ) → AreOctets m → 16 * n ≤ length m → i ≤ n → plain_blocks key (cbc_blocks key m n) i ≡ take (16 * i) m
unfolding plain_blocks
plain_blocks-cbc_blocks key m n zero h fits below = refl
plain_blocks-cbc_blocks key m n (suc i) h fits below =
    (λ j. plain_blocks-cbc_blocks key m n i h fits (omega arith) j ++ plain_block-cbc_blocks key m n i h fits (omega arith) j)
    ∙ take-blocks m i ∙ ap (λ k. take (16 * k) m) (add-one i)

-- decrypting what CBC made of a text of whole blocks gives the text
pub cbc_plain_of-cbc_of : (key m : List ℕ) → AreOctets m → length m % 16 ≡ 0 → cbc_plain_of key (cbc_of key m) ≡ m
unfolding cbc_of cbc_plain_of
cbc_plain_of-cbc_of key m h whole =
    let n : ℕ = length m / 16 in
    let fits : 16 * n ≤ length m = omega arith in
    let count : length (cbc_blocks key m n) / 16 ≡ n = omega (arith, length-cbc_blocks key m n) in
    ap (plain_blocks key (cbc_blocks key m n)) count ∙ plain_blocks-cbc_blocks key m n n h fits (omega arith)
    ∙ take_all (16 * n) m (omega arith)
