-- Products in the field respect sums, and so do MixColumns and its inverse.
use Rattle.std.proofs.Common.{◌≡◌, ℕ, zero, suc, ◌+◌, ◌*◌, ◌/◌, ◌%◌, ◌^◌, ◌<◌, List, [], ◌∷◌, length, refl, sym, ap, ◌∙◌, arith, add-zero}
use Rattle.std.specs.Prelude.{slice_index, bit_xor}
use Rattle.std.specs.Int.{bit_at}
use Rattle.std.specs.Int.Bits.{xor_zero_r, xor_self, xor_assoc}
use Rattle.std.proofs.lemmas.Nat.{xor_comm, xor_block, xor_mod}
use Rattle.std.proofs.lemmas.Nat.Bits.{bit_at_xor, bit_at-lt}
use Rattle.gf_aes.specs.Field.{xtime, times_below, times}
use Rattle.gf_aes.specs.Cipher.{xor_lists, row_times, matrix_times}

-- a sum of two sums, regrouped
pub xor-xor : (a b c d : ℕ) → bit_xor (bit_xor a b) (bit_xor c d) ≡ bit_xor (bit_xor a c) (bit_xor b d)
xor-xor a b c d =
    xor_assoc a b (bit_xor c d)
    ∙ ap (λ x. bit_xor a x) (sym (xor_assoc b c d) ∙ ap (λ x. bit_xor x d) (xor_comm b c) ∙ xor_assoc c b d)
    ∙ sym (xor_assoc a c (bit_xor b d))

-- a bit times a number
pub bit-xor : (x y m : ℕ) → x < 2 → y < 2 → (x + y) % 2 * m ≡ bit_xor (x * m) (y * m)
bit-xor zero y m p q =
    let e : (zero + y) % 2 ≡ y = omega arith in
    let z : zero * m ≡ 0 = omega arith in
    rw (e, z) refl
bit-xor (suc zero) zero m p q =
    let e : (suc zero + zero) % 2 * m ≡ m = omega arith in
    let z : zero * m ≡ 0 = omega arith in
    rw (e, z) (sym (xor_zero_r m))
bit-xor (suc zero) (suc zero) m p q =
    let e : (suc zero + suc zero) % 2 * m ≡ 0 = omega arith in
    rw e (sym (xor_self (suc zero * m)))
bit-xor (suc zero) (suc (suc y)) m p q = absurd (omega arith)
bit-xor (suc (suc x)) y m p q = absurd (omega arith)

pub doubled-xor : (a b : ℕ) → bit_xor a b * 2 ≡ bit_xor (a * 2) (b * 2)
doubled-xor a b =
    let e : bit_xor (a * 2 ^ 1 + 0) (b * 2 ^ 1 + 0) ≡ bit_xor a b * 2 ^ 1 + bit_xor 0 0 = xor_block 1 a b 0 0 (omega arith) (omega arith) in
    sym (simp add-zero at e)

xtime-xor : (a b : ℕ) → xtime (bit_xor a b) ≡ bit_xor (xtime a) (xtime b)
unfolding xtime
xtime-xor a b =
    let shifted : bit_xor a b * 2 % 2 ^ 8 ≡ bit_xor (a * 2 % 2 ^ 8) (b * 2 % 2 ^ 8) = ap (λ x. x % 2 ^ 8) (doubled-xor a b) ∙ xor_mod (a * 2) (b * 2) 8 in
    let folded : bit_at (bit_xor a b) 7 * 0x1B ≡ bit_xor (bit_at a 7 * 0x1B) (bit_at b 7 * 0x1B) = ap (λ x. x * 0x1B) (bit_at_xor a b 7) ∙ bit-xor (bit_at a 7) (bit_at b 7) 0x1B (bit_at-lt a 7) (bit_at-lt b 7) in
    (λ i. bit_xor (shifted i) (folded i)) ∙ xor-xor (a * 2 % 2 ^ 8) (b * 2 % 2 ^ 8) (bit_at a 7 * 0x1B) (bit_at b 7 * 0x1B)

-- a factor that is a bit, over a sum
pub times_bit-xor : (x a b : ℕ) → x < 2 → x * bit_xor a b ≡ bit_xor (x * a) (x * b)
times_bit-xor zero a b p =
    let e : zero * bit_xor a b ≡ 0 = omega arith in
    let f : zero * a ≡ 0 = omega arith in
    let g : zero * b ≡ 0 = omega arith in
    rw (e, f, g) refl
times_bit-xor (suc zero) a b p =
    let e : suc zero * bit_xor a b ≡ bit_xor a b = omega arith in
    let f : a ≡ suc zero * a = omega arith in
    let g : b ≡ suc zero * b = omega arith in
    e ∙ (λ i. bit_xor (f i) (g i))
times_bit-xor (suc (suc x)) a b p = absurd (omega arith)

times_below-xor : (n a b c : ℕ) → times_below n a (bit_xor b c) ≡ bit_xor (times_below n a b) (times_below n a c)
unfolding times_below
times_below-xor zero a b c = refl
times_below-xor (suc n) a b c =
    (λ i. bit_xor (times_bit-xor (bit_at a 0) b c (bit_at-lt a 0) i) (
    (ap (λ x. times_below n (a / 2) x) (xtime-xor b c) ∙ times_below-xor n (a / 2) (xtime b) (xtime c)) i
    ))
    ∙ xor-xor (bit_at a 0 * b) (bit_at a 0 * c) (times_below n (a / 2) (xtime b)) (times_below n (a / 2) (xtime c))

pub times-xor : (a b c : ℕ) → times a (bit_xor b c) ≡ bit_xor (times a b) (times a c)
unfolding times
times-xor a b c = times_below-xor 8 a b c

pub slice_index-xor_lists : (u v : List ℕ) (i : ℕ) → length u ≡ length v → slice_index (xor_lists u v) i ≡ bit_xor (slice_index u i) (slice_index v i)
slice_index-xor_lists [] [] i e = refl
slice_index-xor_lists [] (y ∷ v) i e = absurd (omega arith)
slice_index-xor_lists (x ∷ u) [] i e = absurd (omega arith)
slice_index-xor_lists (x ∷ u) (y ∷ v) zero e = refl
slice_index-xor_lists (x ∷ u) (y ∷ v) (suc i) e = slice_index-xor_lists u v i (omega arith)

term-xor : (a : ℕ) (u v : List ℕ) (i : ℕ) → length u ≡ length v → times a (slice_index (xor_lists u v) i) ≡ bit_xor (times a (slice_index u i)) (times a (slice_index v i))
term-xor a u v i e = ap (times a) (slice_index-xor_lists u v i e) ∙ times-xor a (slice_index u i) (slice_index v i)

xor4 : ℕ → ℕ → ℕ → ℕ → ℕ
xor4 a b c d = bit_xor (bit_xor (bit_xor a b) c) d

xor4-xor : (a b c d a' b' c' d' : ℕ) → bit_xor (bit_xor (bit_xor (bit_xor a a') (bit_xor b b')) (bit_xor c c')) (bit_xor d d') ≡ bit_xor (bit_xor (bit_xor (bit_xor a b) c) d) (bit_xor (bit_xor (bit_xor a' b') c') d')
xor4-xor a b c d a' b' c' d' =
    ap (λ x. bit_xor x (bit_xor d d')) (
    ap (λ x. bit_xor x (bit_xor c c')) (xor-xor a a' b b') ∙ xor-xor (bit_xor a b) (bit_xor a' b') c c'
    )
    ∙ xor-xor (bit_xor (bit_xor a b) c) (bit_xor (bit_xor a' b') c') d d'

row_times-xor : (a b c d : ℕ) (u v : List ℕ) → length u ≡ length v → row_times a b c d (xor_lists u v) ≡ bit_xor (row_times a b c d u) (row_times a b c d v)
row_times-xor a b c d u v e =
    (λ i. bit_xor (bit_xor (bit_xor (term-xor a u v 0 e i) (term-xor b u v 1 e i)) (term-xor c u v 2 e i)) (term-xor d u v 3 e i))
    ∙ xor4-xor (times a (slice_index u 0)) (times b (slice_index u 1)) (times c (slice_index u 2)) (times d (slice_index u 3)) (times a (slice_index v 0)) (times b (slice_index v 1)) (times c (slice_index v 2)) (times d (slice_index v 3))

-- a matrix times a sum of columns
pub matrix_times-xor : (a b c d : ℕ) (u v : List ℕ) → length u ≡ length v → matrix_times a b c d (xor_lists u v) ≡ xor_lists (matrix_times a b c d u) (matrix_times a b c d v)
matrix_times-xor a b c d u v e =
    λ i. row_times-xor a b c d u v e i ∷ row_times-xor d a b c u v e i ∷ row_times-xor c d a b u v e i ∷ row_times-xor b c d a u v e i ∷ []
