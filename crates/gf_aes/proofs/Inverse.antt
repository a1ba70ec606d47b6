-- The inverse cipher undoes the cipher, under any key words.
use Rattle.std.proofs.Common.{get_or, ◌≡◌, ℕ, zero, suc, ◌+◌, ◌-◌, ◌*◌, ◌/◌, ◌%◌, ◌^◌, ◌<◌, ◌≤◌, List, [], ◌∷◌, ◌++◌, map, length, refl, sym, ap, ◌∙◌, arith}
use Rattle.std.specs.Prelude.{slice_index, bit_xor}
use Rattle.std.specs.List.{range_with_len}
use Rattle.std.specs.Int.Bits.{xor_zero_r, xor_self, xor_assoc}
use Rattle.std.proofs.lemmas.Nat.{xor_lt}
use Rattle.std.proofs.lemmas.Nat.Bits.{bit_at-lt}
use Rattle.std.proofs.lemmas.List.{length-map}
use Rattle.std.specs.Int.{bit_at}
use Rattle.std.proofs.lemmas.List.FromFn.{get_or-map-range_with_len, fill_by_all}
use Rattle.gf_aes.specs.Field.{xtime, times_below, times, octet_values, sub_byte}
use Rattle.gf_aes.specs.Cipher.{IsBlock, add_round_key, aes_decrypts, aes_encrypts, cipher, column, inverse_cipher, inverse_mix_column, inverse_mix_columns, inverse_rounds, inverse_shift_rows, inverse_sub_bytes, matrix_times, mix_column, mix_columns, octets, key_words, round_count, round_key, rounds, row_times, shift_rows, sub_bytes, xor_lists}
use Rattle.gf_aes.proofs.Words.{octet_below}
use Rattle.gf_aes.proofs.Entries.{sub_byte-below, inverse_sub_byte-sub_byte}
use Rattle.gf_aes.proofs.Linear.{matrix_times-xor, slice_index-xor_lists}

-- ---- MixColumns undone

-- a fact of each octet, from one computed list
each : (f g : ℕ → List ℕ) → map f octet_values ≡ map g octet_values → (x : ℕ) → x < 256 → f x ≡ g x
each f g e x h =
    sym (get_or-map-range_with_len f 0 256 x x [] h (omega arith)) ∙ ap (λ t. get_or t x []) e ∙ get_or-map-range_with_len g 0 256 x x [] h (omega arith)

alone_0 : (x : ℕ) → x < 256 → inverse_mix_column (mix_column (x ∷ 0 ∷ 0 ∷ 0 ∷ [])) ≡ x ∷ 0 ∷ 0 ∷ 0 ∷ []
unfolding xtime times_below times
alone_0 = each (λ x. inverse_mix_column (mix_column (x ∷ 0 ∷ 0 ∷ 0 ∷ []))) (λ x. x ∷ 0 ∷ 0 ∷ 0 ∷ []) refl

alone_1 : (x : ℕ) → x < 256 → inverse_mix_column (mix_column (0 ∷ x ∷ 0 ∷ 0 ∷ [])) ≡ 0 ∷ x ∷ 0 ∷ 0 ∷ []
unfolding xtime times_below times
alone_1 = each (λ x. inverse_mix_column (mix_column (0 ∷ x ∷ 0 ∷ 0 ∷ []))) (λ x. 0 ∷ x ∷ 0 ∷ 0 ∷ []) refl

alone_2 : (x : ℕ) → x < 256 → inverse_mix_column (mix_column (0 ∷ 0 ∷ x ∷ 0 ∷ [])) ≡ 0 ∷ 0 ∷ x ∷ 0 ∷ []
unfolding xtime times_below times
alone_2 = each (λ x. inverse_mix_column (mix_column (0 ∷ 0 ∷ x ∷ 0 ∷ []))) (λ x. 0 ∷ 0 ∷ x ∷ 0 ∷ []) refl

alone_3 : (x : ℕ) → x < 256 → inverse_mix_column (mix_column (0 ∷ 0 ∷ 0 ∷ x ∷ [])) ≡ 0 ∷ 0 ∷ 0 ∷ x ∷ []
unfolding xtime times_below times
alone_3 = each (λ x. inverse_mix_column (mix_column (0 ∷ 0 ∷ 0 ∷ x ∷ []))) (λ x. 0 ∷ 0 ∷ 0 ∷ x ∷ []) refl

-- both maps, one after the other, of a sum of columns
both-xor : (u v : List ℕ) → length u ≡ length v → inverse_mix_column (mix_column (xor_lists u v)) ≡ xor_lists (inverse_mix_column (mix_column u)) (inverse_mix_column (mix_column v))
both-xor u v e =
    ap inverse_mix_column (matrix_times-xor 2 3 1 1 u v e)
    ∙ matrix_times-xor 0x0E 0x0B 0x0D 0x09 (mix_column u) (mix_column v) refl

-- a column is the sum of its octets, each alone in a column
parts : (x0 x1 x2 x3 : ℕ) → x0 ∷ x1 ∷ x2 ∷ x3 ∷ [] ≡ xor_lists (xor_lists (xor_lists (x0 ∷ 0 ∷ 0 ∷ 0 ∷ []) (0 ∷ x1 ∷ 0 ∷ 0 ∷ [])) (0 ∷ 0 ∷ x2 ∷ 0 ∷ [])) (0 ∷ 0 ∷ 0 ∷ x3 ∷ [])
parts x0 x1 x2 x3 = simp xor_zero_r

pub inverse_mix_column-mix_column : (x0 x1 x2 x3 : ℕ) → x0 < 256 → x1 < 256 → x2 < 256 → x3 < 256 → inverse_mix_column (mix_column (x0 ∷ x1 ∷ x2 ∷ x3 ∷ [])) ≡ x0 ∷ x1 ∷ x2 ∷ x3 ∷ []
inverse_mix_column-mix_column x0 x1 x2 x3 h0 h1 h2 h3 =
    let u0 : List ℕ = x0 ∷ 0 ∷ 0 ∷ 0 ∷ [] in
    let u1 : List ℕ = 0 ∷ x1 ∷ 0 ∷ 0 ∷ [] in
    let u2 : List ℕ = 0 ∷ 0 ∷ x2 ∷ 0 ∷ [] in
    let u3 : List ℕ = 0 ∷ 0 ∷ 0 ∷ x3 ∷ [] in
    ap (λ s. inverse_mix_column (mix_column s)) (parts x0 x1 x2 x3)
    ∙ both-xor (xor_lists (xor_lists u0 u1) u2) u3 refl
    ∙ ap (λ s. xor_lists s (inverse_mix_column (mix_column u3))) (
    both-xor (xor_lists u0 u1) u2 refl ∙ ap (λ s. xor_lists s (inverse_mix_column (mix_column u2))) (both-xor u0 u1 refl)
    )
    ∙ (λ i. xor_lists (xor_lists (xor_lists (alone_0 x0 h0 i) (alone_1 x1 h1 i)) (alone_2 x2 h2 i)) (alone_3 x3 h3 i))
    ∙ sym (parts x0 x1 x2 x3)

-- ---- the steps undone

-- a list by its places, where there are 16
by_places : (s : List ℕ) → length s ≡ 16 → s ≡ map (λ i. slice_index s i) (range_with_len 0 16)
by_places s e = fill_by_all (λ i. slice_index s i) s 16 0 e (λ k h. refl)

unshifted : (s : List ℕ) → length s ≡ 16 → inverse_shift_rows (shift_rows s) ≡ s
unshifted s e = sym (by_places s e)

unmixed : (s : List ℕ) → length s ≡ 16 → ((i : ℕ) → slice_index s i < 2 ^ 8) → inverse_mix_columns (mix_columns s) ≡ s
unmixed s e h =
    (λ i.
    inverse_mix_column-mix_column (slice_index s 0) (slice_index s 1) (slice_index s 2) (slice_index s 3) (h 0) (h 1) (h 2) (h 3) i
    ++ inverse_mix_column-mix_column (slice_index s 4) (slice_index s 5) (slice_index s 6) (slice_index s 7) (h 4) (h 5) (h 6) (h 7) i
    ++ inverse_mix_column-mix_column (slice_index s 8) (slice_index s 9) (slice_index s 10) (slice_index s 11) (h 8) (h 9) (h 10) (h 11) i
    ++ inverse_mix_column-mix_column (slice_index s 12) (slice_index s 13) (slice_index s 14) (slice_index s 15) (h 12) (h 13) (h 14) (h 15) i)
    ∙ sym (by_places s e)

unsubstituted : (s : List ℕ) → ((i : ℕ) → slice_index s i < 256) → inverse_sub_bytes (sub_bytes s) ≡ s
unsubstituted [] h = refl
unsubstituted (x ∷ s) h = λ i. inverse_sub_byte-sub_byte x (h 0) i ∷ unsubstituted s (λ j. h (suc j)) i

-- adding the same list twice
unadded : (s k : List ℕ) → length s ≤ length k → xor_lists (xor_lists s k) k ≡ s
unadded [] k h = refl
unadded (x ∷ s) [] h = absurd (omega arith)
unadded (x ∷ s) (y ∷ k) h =
    let e : bit_xor (bit_xor x y) y ≡ x = xor_assoc x y y ∙ ap (λ z. bit_xor x z) (xor_self y) ∙ xor_zero_r x in
    λ i. e i ∷ unadded s k (omega arith) i

-- the inverse S-box and shift of what the S-box and the shift made
unboxed : (s : List ℕ) → IsBlock s → inverse_sub_bytes (inverse_shift_rows (shift_rows (sub_bytes s))) ≡ s
unboxed s b = ap inverse_sub_bytes (unshifted (sub_bytes s) (length-map s sub_byte ∙ b.0)) ∙ unsubstituted s b.1

-- ---- each state has 16 octets

abbrev pub AreOctets : List ℕ → Type 0
AreOctets s = (i : ℕ) → slice_index s i < 2 ^ 8

cons-below : (x : ℕ) (s : List ℕ) → x < 2 ^ 8 → AreOctets s → AreOctets (x ∷ s)
cons-below x s h g zero = h
cons-below x s h g (suc i) = g i

none-below : AreOctets []
none-below i = omega arith

append-below : (u v : List ℕ) → AreOctets u → AreOctets v → AreOctets (u ++ v)
append-below [] v f g i = g i
append-below (x ∷ u) v f g zero = f 0
append-below (x ∷ u) v f g (suc i) = append-below u v (λ j. f (suc j)) g i

map-below : (f : ℕ → ℕ) (s : List ℕ) → ((x : ℕ) → x < 2 ^ 8 → f x < 2 ^ 8) → AreOctets s → AreOctets (map f s)
map-below f [] h g i = omega arith
map-below f (x ∷ s) h g zero = h x (g 0)
map-below f (x ∷ s) h g (suc i) = map-below f s h (λ j. g (suc j)) i

pub places-below : (f : ℕ → ℕ) (s : List ℕ) → ((x : ℕ) → f x < 2 ^ 8) → AreOctets (map f s)
places-below f [] h i = omega arith
places-below f (x ∷ s) h zero = h x
places-below f (x ∷ s) h (suc i) = places-below f s h i

four-below : (a b c d : ℕ) → a < 2 ^ 8 → b < 2 ^ 8 → c < 2 ^ 8 → d < 2 ^ 8 → AreOctets (a ∷ b ∷ c ∷ d ∷ [])
four-below a b c d ha hb hc hd =
    cons-below a (b ∷ c ∷ d ∷ []) ha (cons-below b (c ∷ d ∷ []) hb (cons-below c (d ∷ []) hc (cons-below d [] hd none-below)))

octets-below : (w : ℕ) → AreOctets (octets w)
octets-below w = four-below (w / 2 ^ 24 % 2 ^ 8) (w / 2 ^ 16 % 2 ^ 8) (w / 2 ^ 8 % 2 ^ 8) (w % 2 ^ 8) (octet_below (w / 2 ^ 24)) (octet_below (w / 2 ^ 16)) (octet_below (w / 2 ^ 8)) (octet_below w)

joined-below : (a b c d : List ℕ) → AreOctets a → AreOctets b → AreOctets c → AreOctets d → AreOctets (a ++ b ++ c ++ d)
joined-below a b c d ha hb hc hd = append-below (a ++ b ++ c) d (append-below (a ++ b) c (append-below a b ha hb) hc) hd

pub round_key-below : (w : List ℕ) (r : ℕ) → AreOctets (round_key w r)
round_key-below w r =
    joined-below (octets (slice_index w (4 * r))) (octets (slice_index w (4 * r + 1))) (octets (slice_index w (4 * r + 2))) (octets (slice_index w (4 * r + 3))) (octets-below _) (octets-below _) (octets-below _) (octets-below _)

pub xtime-below : (b : ℕ) → xtime b < 2 ^ 8
unfolding xtime
xtime-below b = xor_lt 8 (b * 2 % 2 ^ 8) (bit_at b 7 * 0x1B) (omega arith) (omega (arith, bit_at-lt b 7))

times_below-below : (n a b : ℕ) → b < 2 ^ 8 → times_below n a b < 2 ^ 8
unfolding times_below
times_below-below zero a b h = omega arith
times_below-below (suc n) a b h =
    xor_lt 8 (bit_at a 0 * b) (times_below n (a / 2) (xtime b)) (bit_below (bit_at a 0) b (bit_at-lt a 0) h) (times_below-below n (a / 2) (xtime b) (xtime-below b))
  where
    bit_below : (x b : ℕ) → x < 2 → b < 2 ^ 8 → x * b < 2 ^ 8
    bit_below zero b p q = omega arith
    bit_below (suc zero) b p q = omega arith
    bit_below (suc (suc x)) b p q = absurd (omega arith)

pub times-below : (a b : ℕ) → b < 2 ^ 8 → times a b < 2 ^ 8
unfolding times
times-below a b h = times_below-below 8 a b h

row_times-below : (a b c d : ℕ) (s : List ℕ) → AreOctets s → row_times a b c d s < 2 ^ 8
row_times-below a b c d s h =
    let ta : times a (slice_index s 0) < 2 ^ 8 = times-below a (slice_index s 0) (h 0) in
    let tb : times b (slice_index s 1) < 2 ^ 8 = times-below b (slice_index s 1) (h 1) in
    let tc : times c (slice_index s 2) < 2 ^ 8 = times-below c (slice_index s 2) (h 2) in
    let td : times d (slice_index s 3) < 2 ^ 8 = times-below d (slice_index s 3) (h 3) in
    xor_lt 8 _ _ (xor_lt 8 _ _ (xor_lt 8 _ _ ta tb) tc) td

matrix_times-below : (a b c d : ℕ) (s : List ℕ) → AreOctets s → AreOctets (matrix_times a b c d s)
matrix_times-below a b c d s h =
    four-below (row_times a b c d s) (row_times d a b c s) (row_times c d a b s) (row_times b c d a s) (row_times-below a b c d s h) (row_times-below d a b c s h) (row_times-below c d a b s h) (row_times-below b c d a s h)

column-below : (s : List ℕ) (c : ℕ) → AreOctets s → AreOctets (column s c)
column-below s c h = four-below (slice_index s (4 * c)) (slice_index s (4 * c + 1)) (slice_index s (4 * c + 2)) (slice_index s (4 * c + 3)) (h _) (h _) (h _) (h _)

mixed-block : (s : List ℕ) → IsBlock s → IsBlock (mix_columns s)
mixed-block s b = (
  refl,
  joined-below (mix_column (column s 0)) (mix_column (column s 1)) (mix_column (column s 2)) (mix_column (column s 3)) (matrix_times-below 2 3 1 1 (column s 0) (column-below s 0 b.1)) (matrix_times-below 2 3 1 1 (column s 1) (column-below s 1 b.1)) (matrix_times-below 2 3 1 1 (column s 2) (column-below s 2 b.1)) (matrix_times-below 2 3 1 1 (column s 3) (column-below s 3 b.1)),
)

boxed-block : (s : List ℕ) → IsBlock s → IsBlock (shift_rows (sub_bytes s))
boxed-block s b =
    let octets' : AreOctets (sub_bytes s) = map-below sub_byte s sub_byte-below b.1 in
    (refl, places-below (λ i. slice_index (sub_bytes s) (i % 4 + 4 * ((i / 4 + i % 4) % 4))) (range_with_len 0 16) (λ i. octets' _))

pub length-xor_lists : (u v : List ℕ) → length u ≤ length v → length (xor_lists u v) ≡ length u
length-xor_lists [] v h = refl
length-xor_lists (x ∷ u) [] h = absurd (omega arith)
length-xor_lists (x ∷ u) (y ∷ v) h = ap suc (length-xor_lists u v (omega arith))

added-block : (w s : List ℕ) (r : ℕ) → IsBlock s → IsBlock (add_round_key w s r)
added-block w s r b =
    let len : length s ≡ 16 = b.0 in
    let same : length s ≡ length (round_key w r) = len in (
      length-xor_lists s (round_key w r) (omega arith) ∙ len,
      λ i. rw (slice_index-xor_lists s (round_key w r) i same) (xor_lt 8 (slice_index s i) (slice_index (round_key w r) i) (b.1 i) (round_key-below w r i)),
    )

rounds-block : (w s : List ℕ) (n : ℕ) → IsBlock s → IsBlock (rounds w s n)
unfolding rounds
rounds-block w s zero b = added-block w s 0 b
rounds-block w s (suc n) b =
    let boxed : List ℕ = shift_rows (sub_bytes (rounds w s n)) in
    added-block w (mix_columns boxed) (n + 1) (mixed-block boxed (boxed-block (rounds w s n) (rounds-block w s n b)))

-- ---- round by round

-- a state plus a round key plus the same round key
unkeyed : (w s : List ℕ) (r : ℕ) → length s ≡ 16 → add_round_key w (add_round_key w s r) r ≡ s
unkeyed w s r e =
    let fits : length s ≤ length (round_key w r) = omega arith in
    unadded s (round_key w r) fits

-- a whole round without its S-box and shift, undone
undone_last : (w s : List ℕ) (k : ℕ) → IsBlock s → inverse_mix_columns (add_round_key w (rounds w s (suc k)) (k + 1)) ≡ shift_rows (sub_bytes (rounds w s k))
unfolding rounds
undone_last w s k b =
    let boxed : List ℕ = shift_rows (sub_bytes (rounds w s k)) in
    ap inverse_mix_columns (unkeyed w (mix_columns boxed) (k + 1) refl) ∙ unmixed boxed refl (boxed-block (rounds w s k) (rounds-block w s k b)).1

undone : (w s : List ℕ) (n m k : ℕ) → IsBlock s → m + k + 1 ≡ n → inverse_rounds w n (cipher w n s) m ≡ shift_rows (sub_bytes (rounds w s k))
unfolding inverse_rounds cipher
undone w s n zero k b e =
    let at : n - 1 ≡ k = omega arith in
    unkeyed w (shift_rows (sub_bytes (rounds w s (n - 1)))) n refl ∙ ap (λ j. shift_rows (sub_bytes (rounds w s j))) at
undone w s n (suc m) k b e =
    let at : n - (m + 1) ≡ k + 1 = omega arith in
    let next : List ℕ = rounds w s (suc k) in
    ap (λ u. inverse_mix_columns (add_round_key w (inverse_sub_bytes (inverse_shift_rows u)) (n - (m + 1)))) (undone w s n m (suc k) b (omega arith))
    ∙ ap (λ u. inverse_mix_columns (add_round_key w u (n - (m + 1)))) (unboxed next (rounds-block w s (suc k) b))
    ∙ ap (λ j. inverse_mix_columns (add_round_key w next j)) at
    ∙ undone_last w s k b

pub inverse_cipher-cipher : (w s : List ℕ) (n : ℕ) → IsBlock s → 1 ≤ n → inverse_cipher w n (cipher w n s) ≡ s
unfolding inverse_cipher rounds
inverse_cipher-cipher w s n b h =
    ap (λ u. add_round_key w (inverse_sub_bytes (inverse_shift_rows u)) 0) (undone w s n (n - 1) 0 b (omega arith))
    ∙ ap (λ u. add_round_key w u 0) (unboxed (rounds w s 0) (rounds-block w s 0 b))
    ∙ unkeyed w s 0 b.0

-- the inverse of AES undoes AES
pub aes_decrypts-aes_encrypts : (key s : List ℕ) → IsBlock s → aes_decrypts key (aes_encrypts key s) ≡ s
unfolding aes_decrypts aes_encrypts
aes_decrypts-aes_encrypts key s b = inverse_cipher-cipher (key_words key) s (round_count key) b (omega arith)

-- ---- for those who chain blocks

-- a sum of blocks is a block
pub IsBlock-xor_lists : (s t : List ℕ) → IsBlock s → IsBlock t → IsBlock (xor_lists s t)
IsBlock-xor_lists s t b c =
    let len : length s ≡ 16 = b.0 in
    let len' : length t ≡ 16 = c.0 in
    let same : length s ≡ length t = omega arith in (
      length-xor_lists s t (omega arith) ∙ len,
      λ i. rw (slice_index-xor_lists s t i same) (xor_lt 8 (slice_index s i) (slice_index t i) (b.1 i) (c.1 i)),
    )

-- AES of a block is a block
pub IsBlock-aes_encrypts : (key s : List ℕ) → IsBlock s → IsBlock (aes_encrypts key s)
unfolding aes_encrypts cipher
IsBlock-aes_encrypts key s b =
    let w : List ℕ = key_words key in
    let n : ℕ = round_count key in
    let before : List ℕ = rounds w s (n - 1) in
    added-block w (shift_rows (sub_bytes before)) n (boxed-block before (rounds-block w s (n - 1) b))

-- a sum with the same block twice
pub xor_lists-twice : (s k : List ℕ) → length s ≤ length k → xor_lists (xor_lists s k) k ≡ s
xor_lists-twice s k h = unadded s k h
