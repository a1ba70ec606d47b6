-- The tables, entry by entry: the S-boxes against the field, the columns against the S-boxes.
use Rattle.std.proofs.Common.{◌≡◌, ℕ, ◌/◌, ◌^◌, ◌<◌, List, [], ◌∷◌, map, length, get_or, refl, sym, ap, ◌∙◌, arith}
use Rattle.std.specs.Prelude.{slice_index, bit_xor}
use Rattle.std.specs.Int.Bits.{xor_zero_l, xor_zero_r}
use Rattle.std.proofs.lemmas.List.{get_or-map}
use Rattle.std.proofs.lemmas.List.FromFn.{get_or-map-range_with_len}
use Rattle.gf_aes.specs.Field.{xtime, times_below, times, octet_values, inverse, affine_bit, affine, sub_byte, affine_inverse, inverse_sub_byte}
use Rattle.gf_aes.specs.Cipher.{octets, octet, word_of, diagonal, xor_lists, mix_column, inverse_mix_column, matrix_times, multiples, sub_word}
use Rattle.gf_aes.specs.declared.tables.TheConstants.{S_BOX, INVERSE_S_BOX, SUB, MIX, INVERSE_MIX}
use Rattle.gf_aes.proofs.Words.{octets-xor, octets-word_of, octet_below}

-- a table that lists a function's values has each of them at its place
entry : (table : List ℕ) (f : ℕ → ℕ) → table ≡ map f octet_values → (i : ℕ) → i < 256 → slice_index table i ≡ f i
entry table f e i h = ap (λ t. slice_index t i) e ∙ get_or-map-range_with_len f 0 256 i i 0 h (omega arith)

table-sub_byte : S_BOX ≡ map sub_byte octet_values
unfolding xtime times_below times inverse affine_bit affine sub_byte
table-sub_byte = refl

table-inverse_sub_byte : INVERSE_S_BOX ≡ map inverse_sub_byte octet_values
unfolding xtime times_below times inverse affine_bit affine affine_inverse inverse_sub_byte
table-inverse_sub_byte = refl

pub S_BOX-at : (i : ℕ) → i < 256 → slice_index S_BOX i ≡ sub_byte i
S_BOX-at = entry S_BOX sub_byte table-sub_byte

pub INVERSE_S_BOX-at : (i : ℕ) → i < 256 → slice_index INVERSE_S_BOX i ≡ inverse_sub_byte i
INVERSE_S_BOX-at = entry INVERSE_S_BOX inverse_sub_byte table-inverse_sub_byte

-- each entry of a table, by a test of the whole table
tested : (table : List ℕ) (f g : ℕ → ℕ) → map f table ≡ map g octet_values → length table ≡ 256 → (i : ℕ) → i < 256 → f (slice_index table i) ≡ g i
tested table f g e len i h =
    let l : i < length table = omega arith in
    sym (get_or-map f table i 0 0 l) ∙ ap (λ t. slice_index t i) e ∙ get_or-map-range_with_len g 0 256 i i 0 h (omega arith)

-- the S-boxes have octets
pub sub_byte-below : (i : ℕ) → i < 256 → sub_byte i < 256
sub_byte-below i h =
    let e : slice_index S_BOX i / 256 ≡ 0 = tested S_BOX (λ b. b / 256) (λ _. 0) refl refl i h in
    omega (arith, S_BOX-at i h, e)

pub inverse_sub_byte-below : (i : ℕ) → i < 256 → inverse_sub_byte i < 256
inverse_sub_byte-below i h =
    let e : slice_index INVERSE_S_BOX i / 256 ≡ 0 = tested INVERSE_S_BOX (λ b. b / 256) (λ _. 0) refl refl i h in
    omega (arith, INVERSE_S_BOX-at i h, e)

-- the inverse S-box undoes the S-box
pub inverse_sub_byte-sub_byte : (i : ℕ) → i < 256 → inverse_sub_byte (sub_byte i) ≡ i
inverse_sub_byte-sub_byte i h =
    let e : slice_index INVERSE_S_BOX (slice_index S_BOX i) ≡ i = tested S_BOX (slice_index INVERSE_S_BOX) (λ j. j) refl refl i h in
    sym (INVERSE_S_BOX-at (sub_byte i) (sub_byte-below i h)) ∙ ap (slice_index INVERSE_S_BOX) (sym (S_BOX-at i h)) ∙ e

-- a table of words that lists a column for each entry of another table
columns : (table box : List ℕ) (f : ℕ → List ℕ) → map octets table ≡ map f box → length table ≡ 256 → length box ≡ 256 → (i : ℕ) → i < 256 → octets (slice_index table i) ≡ f (slice_index box i)
columns table box f e len len' i h =
    let l : i < length table = omega arith in
    let l' : i < length box = omega arith in
    sym (get_or-map octets table i 0 [] l) ∙ ap (λ t. get_or t i []) e ∙ get_or-map f box i 0 [] l'

pub SUB_0-at : (i : ℕ) → i < 256 → octets (slice_index (get_or SUB 0 []) i) ≡ sub_byte i ∷ 0 ∷ 0 ∷ 0 ∷ []
SUB_0-at i h = columns (get_or SUB 0 []) S_BOX (λ s. s ∷ 0 ∷ 0 ∷ 0 ∷ []) refl refl refl i h ∙ ap (λ s. s ∷ 0 ∷ 0 ∷ 0 ∷ []) (S_BOX-at i h)

pub SUB_1-at : (i : ℕ) → i < 256 → octets (slice_index (get_or SUB 1 []) i) ≡ 0 ∷ sub_byte i ∷ 0 ∷ 0 ∷ []
SUB_1-at i h = columns (get_or SUB 1 []) S_BOX (λ s. 0 ∷ s ∷ 0 ∷ 0 ∷ []) refl refl refl i h ∙ ap (λ s. 0 ∷ s ∷ 0 ∷ 0 ∷ []) (S_BOX-at i h)

pub SUB_2-at : (i : ℕ) → i < 256 → octets (slice_index (get_or SUB 2 []) i) ≡ 0 ∷ 0 ∷ sub_byte i ∷ 0 ∷ []
SUB_2-at i h = columns (get_or SUB 2 []) S_BOX (λ s. 0 ∷ 0 ∷ s ∷ 0 ∷ []) refl refl refl i h ∙ ap (λ s. 0 ∷ 0 ∷ s ∷ 0 ∷ []) (S_BOX-at i h)

pub SUB_3-at : (i : ℕ) → i < 256 → octets (slice_index (get_or SUB 3 []) i) ≡ 0 ∷ 0 ∷ 0 ∷ sub_byte i ∷ []
SUB_3-at i h = columns (get_or SUB 3 []) S_BOX (λ s. 0 ∷ 0 ∷ 0 ∷ s ∷ []) refl refl refl i h ∙ ap (λ s. 0 ∷ 0 ∷ 0 ∷ s ∷ []) (S_BOX-at i h)

pub MIX_0-at : (i : ℕ) → i < 256 → octets (slice_index (get_or MIX 0 []) i) ≡ multiples 2 1 1 3 (sub_byte i)
unfolding xtime times_below times
MIX_0-at i h = columns (get_or MIX 0 []) S_BOX (multiples 2 1 1 3) refl refl refl i h ∙ ap (multiples 2 1 1 3) (S_BOX-at i h)

pub MIX_1-at : (i : ℕ) → i < 256 → octets (slice_index (get_or MIX 1 []) i) ≡ multiples 3 2 1 1 (sub_byte i)
unfolding xtime times_below times
MIX_1-at i h = columns (get_or MIX 1 []) S_BOX (multiples 3 2 1 1) refl refl refl i h ∙ ap (multiples 3 2 1 1) (S_BOX-at i h)

pub MIX_2-at : (i : ℕ) → i < 256 → octets (slice_index (get_or MIX 2 []) i) ≡ multiples 1 3 2 1 (sub_byte i)
unfolding xtime times_below times
MIX_2-at i h = columns (get_or MIX 2 []) S_BOX (multiples 1 3 2 1) refl refl refl i h ∙ ap (multiples 1 3 2 1) (S_BOX-at i h)

pub MIX_3-at : (i : ℕ) → i < 256 → octets (slice_index (get_or MIX 3 []) i) ≡ multiples 1 1 3 2 (sub_byte i)
unfolding xtime times_below times
MIX_3-at i h = columns (get_or MIX 3 []) S_BOX (multiples 1 1 3 2) refl refl refl i h ∙ ap (multiples 1 1 3 2) (S_BOX-at i h)

INVERSE_MIX_0-at : (i : ℕ) → i < 256 → octets (slice_index (get_or INVERSE_MIX 0 []) i) ≡ multiples 0x0E 0x09 0x0D 0x0B (inverse_sub_byte i)
unfolding xtime times_below times
INVERSE_MIX_0-at i h = columns (get_or INVERSE_MIX 0 []) INVERSE_S_BOX (multiples 0x0E 0x09 0x0D 0x0B) refl refl refl i h ∙ ap (multiples 0x0E 0x09 0x0D 0x0B) (INVERSE_S_BOX-at i h)

INVERSE_MIX_1-at : (i : ℕ) → i < 256 → octets (slice_index (get_or INVERSE_MIX 1 []) i) ≡ multiples 0x0B 0x0E 0x09 0x0D (inverse_sub_byte i)
unfolding xtime times_below times
INVERSE_MIX_1-at i h = columns (get_or INVERSE_MIX 1 []) INVERSE_S_BOX (multiples 0x0B 0x0E 0x09 0x0D) refl refl refl i h ∙ ap (multiples 0x0B 0x0E 0x09 0x0D) (INVERSE_S_BOX-at i h)

INVERSE_MIX_2-at : (i : ℕ) → i < 256 → octets (slice_index (get_or INVERSE_MIX 2 []) i) ≡ multiples 0x0D 0x0B 0x0E 0x09 (inverse_sub_byte i)
unfolding xtime times_below times
INVERSE_MIX_2-at i h = columns (get_or INVERSE_MIX 2 []) INVERSE_S_BOX (multiples 0x0D 0x0B 0x0E 0x09) refl refl refl i h ∙ ap (multiples 0x0D 0x0B 0x0E 0x09) (INVERSE_S_BOX-at i h)

INVERSE_MIX_3-at : (i : ℕ) → i < 256 → octets (slice_index (get_or INVERSE_MIX 3 []) i) ≡ multiples 0x09 0x0D 0x0B 0x0E (inverse_sub_byte i)
unfolding xtime times_below times
INVERSE_MIX_3-at i h = columns (get_or INVERSE_MIX 3 []) INVERSE_S_BOX (multiples 0x09 0x0D 0x0B 0x0E) refl refl refl i h ∙ ap (multiples 0x09 0x0D 0x0B 0x0E) (INVERSE_S_BOX-at i h)

-- a matrix times a column, as the sum of four table words
summed : (a b c d x0 x1 x2 x3 t0 t1 t2 t3 : ℕ) → octets t0 ≡ multiples a d c b x0 → octets t1 ≡ multiples b a d c x1 → octets t2 ≡ multiples c b a d x2 → octets t3 ≡ multiples d c b a x3 → octets (bit_xor (bit_xor (bit_xor t0 t1) t2) t3) ≡ matrix_times a b c d (x0 ∷ x1 ∷ x2 ∷ x3 ∷ [])
summed a b c d x0 x1 x2 x3 t0 t1 t2 t3 e0 e1 e2 e3 =
    octets-xor (bit_xor (bit_xor t0 t1) t2) t3
    ∙ ap (λ u. xor_lists u (octets t3)) (octets-xor (bit_xor t0 t1) t2 ∙ ap (λ u. xor_lists u (octets t2)) (octets-xor t0 t1))
    ∙ (λ i. xor_lists (xor_lists (xor_lists (e0 i) (e1 i)) (e2 i)) (e3 i))

keyed : (t k : ℕ) (s : List ℕ) → octets t ≡ s → octets (bit_xor t k) ≡ xor_lists s (octets k)
keyed t k s e = octets-xor t k ∙ ap (λ u. xor_lists u (octets k)) e

-- ---- what the kernel computes

pub sub_word-of : (w : ℕ) → word_of (slice_index S_BOX (octet w 0)) (slice_index S_BOX (octet w 1)) (slice_index S_BOX (octet w 2)) (slice_index S_BOX (octet w 3)) ≡ sub_word w
unfolding sub_word
sub_word-of w =
    rw (S_BOX-at (octet w 0) (octet_below (w / 2 ^ 24)), S_BOX-at (octet w 1) (octet_below (w / 2 ^ 16)), S_BOX-at (octet w 2) (octet_below (w / 2 ^ 8)), S_BOX-at (octet w 3) (octet_below w)) refl

pub round_word-of : (x0 x1 x2 x3 t0 t1 t2 t3 k : ℕ) → octets t0 ≡ multiples 2 1 1 3 (sub_byte x0) → octets t1 ≡ multiples 3 2 1 1 (sub_byte x1) → octets t2 ≡ multiples 1 3 2 1 (sub_byte x2) → octets t3 ≡ multiples 1 1 3 2 (sub_byte x3) → octets (bit_xor (bit_xor (bit_xor (bit_xor t0 t1) t2) t3) k) ≡ xor_lists (mix_column (map sub_byte (x0 ∷ x1 ∷ x2 ∷ x3 ∷ []))) (octets k)
round_word-of x0 x1 x2 x3 t0 t1 t2 t3 k e0 e1 e2 e3 =
    keyed (bit_xor (bit_xor (bit_xor t0 t1) t2) t3) k (mix_column (map sub_byte (x0 ∷ x1 ∷ x2 ∷ x3 ∷ []))) (
    summed 2 3 1 1 (sub_byte x0) (sub_byte x1) (sub_byte x2) (sub_byte x3) t0 t1 t2 t3 e0 e1 e2 e3
    )

pub inverse_round_word-of : (a b c d k : ℕ) → octets (bit_xor (bit_xor (bit_xor (bit_xor (slice_index (get_or INVERSE_MIX 0 []) (octet a 0)) (slice_index (get_or INVERSE_MIX 1 []) (octet b 1))) (slice_index (get_or INVERSE_MIX 2 []) (octet c 2))) (slice_index (get_or INVERSE_MIX 3 []) (octet d 3))) k) ≡ xor_lists (inverse_mix_column (map inverse_sub_byte (diagonal a b c d))) (octets k)
inverse_round_word-of a b c d k =
    keyed _ k (inverse_mix_column (map inverse_sub_byte (diagonal a b c d))) (
    summed 0x0E 0x0B 0x0D 0x09 _ _ _ _ _ _ _ _ (INVERSE_MIX_0-at (octet a 0) (octet_below (a / 2 ^ 24))) (INVERSE_MIX_1-at (octet b 1) (octet_below (b / 2 ^ 16))) (INVERSE_MIX_2-at (octet c 2) (octet_below (c / 2 ^ 8))) (INVERSE_MIX_3-at (octet d 3) (octet_below d))
    )

pub last_word-of : (x0 x1 x2 x3 t0 t1 t2 t3 k : ℕ) → octets t0 ≡ sub_byte x0 ∷ 0 ∷ 0 ∷ 0 ∷ [] → octets t1 ≡ 0 ∷ sub_byte x1 ∷ 0 ∷ 0 ∷ [] → octets t2 ≡ 0 ∷ 0 ∷ sub_byte x2 ∷ 0 ∷ [] → octets t3 ≡ 0 ∷ 0 ∷ 0 ∷ sub_byte x3 ∷ [] → octets (bit_xor (bit_xor (bit_xor (bit_xor t0 t1) t2) t3) k) ≡ xor_lists (map sub_byte (x0 ∷ x1 ∷ x2 ∷ x3 ∷ [])) (octets k)
last_word-of x0 x1 x2 x3 t0 t1 t2 t3 k e0 e1 e2 e3 =
    keyed (bit_xor (bit_xor (bit_xor t0 t1) t2) t3) k (map sub_byte (x0 ∷ x1 ∷ x2 ∷ x3 ∷ [])) (
    octets-xor (bit_xor (bit_xor t0 t1) t2) t3
    ∙ ap (λ u. xor_lists u (octets t3)) (octets-xor (bit_xor t0 t1) t2 ∙ ap (λ u. xor_lists u (octets t2)) (octets-xor t0 t1))
    ∙ (λ i. xor_lists (xor_lists (xor_lists (e0 i) (e1 i)) (e2 i)) (e3 i))
    ∙ rw (xor_zero_r (sub_byte x0), xor_zero_r (sub_byte x0), xor_zero_r (sub_byte x0), xor_zero_l (sub_byte x1), xor_zero_r (sub_byte x1), xor_zero_r (sub_byte x1), xor_zero_l (sub_byte x2), xor_zero_r (sub_byte x2), xor_zero_l (sub_byte x3)) refl
    )

pub inverse_last_word-of : (a b c d k : ℕ) → octets (bit_xor (word_of (slice_index INVERSE_S_BOX (octet a 0)) (slice_index INVERSE_S_BOX (octet b 1)) (slice_index INVERSE_S_BOX (octet c 2)) (slice_index INVERSE_S_BOX (octet d 3))) k) ≡ xor_lists (map inverse_sub_byte (diagonal a b c d)) (octets k)
inverse_last_word-of a b c d k =
    let h0 = octet_below (a / 2 ^ 24) in
    let h1 = octet_below (b / 2 ^ 16) in
    let h2 = octet_below (c / 2 ^ 8) in
    let h3 = octet_below d in
    rw (INVERSE_S_BOX-at (octet a 0) h0, INVERSE_S_BOX-at (octet b 1) h1, INVERSE_S_BOX-at (octet c 2) h2, INVERSE_S_BOX-at (octet d 3) h3) (
    keyed _ k (map inverse_sub_byte (diagonal a b c d)) (
    octets-word_of _ _ _ _ (inverse_sub_byte-below (octet a 0) h0) (inverse_sub_byte-below (octet b 1) h1) (inverse_sub_byte-below (octet c 2) h2) (inverse_sub_byte-below (octet d 3) h3)
    )
    )

-- the inverse S-box of the S-box is the octet itself
unboxed : (i : ℕ) → i < 256 → inverse_sub_byte (slice_index S_BOX i) ≡ i
unboxed i h = ap inverse_sub_byte (S_BOX-at i h) ∙ inverse_sub_byte-sub_byte i h

boxed_below : (i : ℕ) → i < 256 → slice_index S_BOX i < 256
boxed_below i h = omega (arith, S_BOX-at i h, sub_byte-below i h)

pub inverse_mix_word-of : (w : ℕ) → octets (bit_xor (bit_xor (bit_xor (slice_index (get_or INVERSE_MIX 0 []) (slice_index S_BOX (octet w 0))) (slice_index (get_or INVERSE_MIX 1 []) (slice_index S_BOX (octet w 1)))) (slice_index (get_or INVERSE_MIX 2 []) (slice_index S_BOX (octet w 2)))) (slice_index (get_or INVERSE_MIX 3 []) (slice_index S_BOX (octet w 3)))) ≡ inverse_mix_column (octets w)
inverse_mix_word-of w =
    let h0 = octet_below (w / 2 ^ 24) in
    let h1 = octet_below (w / 2 ^ 16) in
    let h2 = octet_below (w / 2 ^ 8) in
    let h3 = octet_below w in
    summed 0x0E 0x0B 0x0D 0x09 (octet w 0) (octet w 1) (octet w 2) (octet w 3) _ _ _ _ (
    INVERSE_MIX_0-at (slice_index S_BOX (octet w 0)) (boxed_below (octet w 0) h0) ∙ ap (multiples 0x0E 0x09 0x0D 0x0B) (unboxed (octet w 0) h0)
    ) (
    INVERSE_MIX_1-at (slice_index S_BOX (octet w 1)) (boxed_below (octet w 1) h1) ∙ ap (multiples 0x0B 0x0E 0x09 0x0D) (unboxed (octet w 1) h1)
    ) (
    INVERSE_MIX_2-at (slice_index S_BOX (octet w 2)) (boxed_below (octet w 2) h2) ∙ ap (multiples 0x0D 0x0B 0x0E 0x09) (unboxed (octet w 2) h2)
    ) (
    INVERSE_MIX_3-at (slice_index S_BOX (octet w 3)) (boxed_below (octet w 3) h3) ∙ ap (multiples 0x09 0x0D 0x0B 0x0E) (unboxed (octet w 3) h3)
    )
