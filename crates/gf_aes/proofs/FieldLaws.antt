-- The octets with `times` are a field: products are reduced products, and inverses invert.
use Rattle.std.proofs.Common.{◌≡◌, ℕ, zero, suc, ◌+◌, ◌-◌, ◌*◌, ◌/◌, ◌^◌, ◌<◌, map, refl, sym, ap, ◌∙◌, arith, get_or, pow-suc}
use Rattle.std.specs.Prelude.{bit_xor}
use Rattle.std.specs.Int.{bit_at}
use Rattle.std.specs.Int.Bits.{xor_assoc}
use Rattle.std.proofs.lemmas.Nat.{xor_lt, xor_shr}
use Rattle.std.proofs.lemmas.Nat.Bits.{bit_at_xor, bit_at-lt}
use Rattle.std.proofs.lemmas.List.FromFn.{get_or-map-range_with_len}
use Rattle.std.specs.List.{range_with_len}
use Rattle.gf_aes.specs.Field.{IsField, IsReducedProduct, inverse, octet_values, product_below, times, times_below, xtime}
use Rattle.gf_aes.proofs.Linear.{bit-xor, doubled-xor, times_bit-xor, xor-xor}
use Rattle.gf_aes.proofs.Inverse.{times-below, xtime-below}

each : (f g : ℕ → ℕ) → map f octet_values ≡ map g octet_values → (x : ℕ) → x < 256 → f x ≡ g x
each f g e x h =
    sym (get_or-map-range_with_len f 0 256 x x 0 h (omega arith)) ∙ ap (λ t. get_or t x 0) e ∙ get_or-map-range_with_len g 0 256 x x 0 h (omega arith)

-- x times b as polynomials is xtime b, and the field's polynomial where a bit is shifted out
doubled : (b : ℕ) → b < 256 → b * 2 ≡ bit_xor (xtime b) (bit_at b 7 * 0x11B)
unfolding xtime
doubled = each (λ b. b * 2) (λ b. bit_xor (xtime b) (bit_at b 7 * 0x11B)) refl

-- a product of polynomials, over sums of the second and of the first
product-xor : (n a b c : ℕ) → product_below n a (bit_xor b c) ≡ bit_xor (product_below n a b) (product_below n a c)
unfolding product_below
product-xor zero a b c = refl
product-xor (suc n) a b c =
    (λ i. bit_xor (times_bit-xor (bit_at a 0) b c (bit_at-lt a 0) i) (
    (ap (product_below n (a / 2)) (doubled-xor b c) ∙ product-xor n (a / 2) (b * 2) (c * 2)) i
    ))
    ∙ xor-xor (bit_at a 0 * b) (bit_at a 0 * c) (product_below n (a / 2) (b * 2)) (product_below n (a / 2) (c * 2))

xor-product : (n a b m : ℕ) → product_below n (bit_xor a b) m ≡ bit_xor (product_below n a m) (product_below n b m)
unfolding product_below
xor-product zero a b m = refl
xor-product (suc n) a b m =
    let bit : bit_at (bit_xor a b) 0 * m ≡ bit_xor (bit_at a 0 * m) (bit_at b 0 * m) = ap (λ x. x * m) (bit_at_xor a b 0) ∙ bit-xor (bit_at a 0) (bit_at b 0) m (bit_at-lt a 0) (bit_at-lt b 0) in
    let half : bit_xor a b / 2 ≡ bit_xor (a / 2) (b / 2) = xor_shr a b 1 in
    (λ i. bit_xor (bit i) ((ap (λ x. product_below n x (m * 2)) half ∙ xor-product n (a / 2) (b / 2) (m * 2)) i))
    ∙ xor-xor (bit_at a 0 * m) (bit_at b 0 * m) (product_below n (a / 2) (m * 2)) (product_below n (b / 2) (m * 2))

product-zero : (n a : ℕ) → product_below n a 0 ≡ 0
unfolding product_below
product-zero zero a = refl
product-zero (suc n) a =
    let z : bit_at a 0 * 0 ≡ 0 = omega arith in
    rw z (product-zero n (a / 2))

zero-product : (n m : ℕ) → product_below n 0 m ≡ 0
unfolding product_below
zero-product zero m = refl
zero-product (suc n) m =
    let z : 0 * m ≡ 0 = omega arith in
    rw z (zero-product n (m * 2))

-- a bit may go with either factor
bit-product : (n a c m : ℕ) → c < 2 → product_below n a (c * m) ≡ product_below n (c * a) m
bit-product n a zero m h =
    let z : zero * m ≡ 0 = omega arith in
    let y : zero * a ≡ 0 = omega arith in
    rw (z, y) (product-zero n a ∙ sym (zero-product n m))
bit-product n a (suc zero) m h =
    let z : suc zero * m ≡ m = omega arith in
    let y : suc zero * a ≡ a = omega arith in
    ap (λ x. product_below n a x) z ∙ ap (λ x. product_below n x m) (sym y)
bit-product n a (suc (suc c)) m h = absurd (omega arith)

-- bits that are 0 do not count
product-short : (n q m : ℕ) → q < 2 ^ n → product_below (suc n) q m ≡ product_below n q m
unfolding product_below
product-short zero q m h =
    let z : q ≡ 0 = omega arith in
    let y : 0 * m ≡ 0 = omega arith in
    rw (z, y) refl
product-short (suc n) q m h =
    let half : q / 2 < 2 ^ n = omega (arith, pow-suc 2 n) in
    ap (λ x. bit_xor (bit_at q 0 * m) x) (product-short n (q / 2) (m * 2) half)

-- the product of polynomials is the field's product and a multiple of the field's polynomial
reduced : (n a b : ℕ) → a < 2 ^ n → b < 256 → (q : ℕ) × (q < 2 ^ n) × (product_below n a b ≡ bit_xor (times_below n a b) (product_below n q 0x11B))
unfolding product_below times_below
reduced zero a b h k = (0, omega arith, refl)
reduced (suc n) a b h k =
    let half : a / 2 < 2 ^ n = omega (arith, pow-suc 2 n) in
    let c : ℕ = bit_at b 7 in
    let below = reduced n (a / 2) (xtime b) half (xtime-below b) in
    let q : ℕ = bit_xor below.0 (c * (a / 2)) in
    let small : c * (a / 2) < 2 ^ n = bit_times c (a / 2) (2 ^ n) (bit_at-lt b 7) half in
    let fits : q < 2 ^ n = xor_lt n below.0 (c * (a / 2)) below.1 small in
    let wide : q < 2 ^ suc n = omega (arith, pow-suc 2 n) in
    let p : ℕ = times_below n (a / 2) (xtime b) in
    let step : product_below n (a / 2) (b * 2) ≡ bit_xor p (product_below (suc n) q 0x11B) =
    ap (product_below n (a / 2)) (doubled b k) ∙ product-xor n (a / 2) (xtime b) (c * 0x11B)
    ∙ (λ i. bit_xor (below.2 i) (bit-product n (a / 2) c 0x11B (bit_at-lt b 7) i))
    ∙ xor_assoc p (product_below n below.0 0x11B) (product_below n (c * (a / 2)) 0x11B)
    ∙ ap (bit_xor p) (sym (xor-product n below.0 (c * (a / 2)) 0x11B) ∙ sym (product-short n q 0x11B fits)) in
    (q, wide, ap (bit_xor (bit_at a 0 * b)) step ∙ sym (xor_assoc (bit_at a 0 * b) p (product_below (suc n) q 0x11B)))
  where
    bit_times : (c x m : ℕ) → c < 2 → x < m → c * x < m
    bit_times zero x m p q = omega arith
    bit_times (suc zero) x m p q = omega arith
    bit_times (suc (suc c)) x m p q = absurd (omega arith)

product : (a b : ℕ) → a < 2 ^ 8 → b < 2 ^ 8 → IsReducedProduct a b (times a b)
unfolding times
product a b h k = let r = reduced 8 a b h k in (times-below a b k, (r.0, r.2))

inverts : (b : ℕ) → b < 255 → times (inverse (b + 1)) (b + 1) ≡ 1
unfolding xtime times_below times inverse
inverts b h =
    let all : map (λ j. times (inverse (j + 1)) (j + 1)) (range_with_len 0 255) ≡ map (λ _. 1) (range_with_len 0 255) = refl in
    sym (get_or-map-range_with_len (λ j. times (inverse (j + 1)) (j + 1)) 0 255 b b 0 h (omega arith)) ∙ ap (λ t. get_or t b 0) all
    ∙ get_or-map-range_with_len (λ _. 1) 0 255 b b 0 h (omega arith)

pub is_field : IsField
is_field =
    record {
      product = product;
      inverts = λ b some h.
          let at : b - 1 + 1 ≡ b = omega arith in
          rw at at (inverts (b - 1) (omega arith));
    }
