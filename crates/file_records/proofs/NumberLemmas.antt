-- Octets as a number.
use Rattle.std.proofs.Common.{lit<, ◌≡◌, ℕ, zero, suc, ◌+◌, ◌-◌, ◌*◌, ◌/◌, ◌%◌, ◌^◌, ◌<◌, ◌≤◌, List, [], ◌∷◌, ◌++◌, Option, Some, None, length, take, drop, get_or, set, nat_lt, true, false, cond, refl, sym, ap, subst, ◌∙◌, arith}
use Rattle.std.proofs.lemmas.Nat.{div-mul-add, mod-mul-add}
use Rattle.std.proofs.lemmas.List.{drop-set, length-drop, length-set}
use Rattle.std.proofs.Math.Seq.{drop-cons, take-append_seam}
use Rattle.std.proofs.Math.Nat.{mul-le-mul_right, pow-succ', mod-add-div'}
use Rattle.std.proofs.lemmas.Bool.Decides.{nat_tests}
use Rattle.file_records.specs.Numbers.{AreOctets, number_of, octets_with, sum_in}

tail : (x : ℕ) (xs : List ℕ) → AreOctets (x ∷ xs) → AreOctets xs
tail x xs h i = h (suc i)

pub AreOctets-set : (octets : List ℕ) (at octet : ℕ) → AreOctets octets → octet < 256 → AreOctets (set octets at octet)
AreOctets-set [] at octet h b i = h i
AreOctets-set (x ∷ xs) zero octet h b zero = b
AreOctets-set (x ∷ xs) zero octet h b (suc i) = h (suc i)
AreOctets-set (x ∷ xs) (suc at) octet h b zero = h 0
AreOctets-set (x ∷ xs) (suc at) octet h b (suc i) = AreOctets-set xs at octet (tail x xs h) b i

pub number_of-lt : (octets : List ℕ) → AreOctets octets → number_of octets < 256 ^ length octets
number_of-lt [] h = lit< tt
number_of-lt (x ∷ xs) h =
    let below = number_of-lt xs (tail x xs h) in
    let first : x < 256 = h 0 in
    let scaled : x * 256 ^ length xs ≤ 255 * 256 ^ length xs = mul-le-mul_right (256 ^ length xs) (omega arith) in
    rw (pow-succ' 256 (length xs)) (omega arith)

pub octets_with-number_of : (octets : List ℕ) → AreOctets octets → octets_with (length octets) (number_of octets) ≡ octets
octets_with-number_of [] h = refl
octets_with-number_of (x ∷ xs) h =
    let below = number_of-lt xs (tail x xs h) in
    let first : (x * 256 ^ length xs + number_of xs) / 256 ^ length xs ≡ x = div-mul-add x (256 ^ length xs) (number_of xs) below in
    let rest : (x * 256 ^ length xs + number_of xs) % 256 ^ length xs ≡ number_of xs = mod-mul-add x (256 ^ length xs) (number_of xs) below in
    ap (λ y. y ∷ octets_with (length xs) ((x * 256 ^ length xs + number_of xs) % 256 ^ length xs)) first
    ∙ ap (λ n. x ∷ octets_with (length xs) n) rest
    ∙ ap (λ ys. x ∷ ys) (octets_with-number_of xs (tail x xs h))

-- what octets with a carry, which hold a sum, say of it
pub sum-fits : (row new : List ℕ) (by : ℕ) → AreOctets new → length new ≡ length row → number_of new ≡ number_of row + by → Some new ≡ sum_in row by
sum-fits row new by bytes long is =
    let below : number_of row + by < 256 ^ length row = rw (← is, ← long) (number_of-lt new bytes) in
    let octets : octets_with (length row) (number_of row + by) ≡ new = rw (← is, ← long) (octets_with-number_of new bytes) in
    grind (arith, nat_tests)

pub sum-passes : (row new : List ℕ) (by carry : ℕ) → 0 < carry → length new ≡ length row → number_of new + carry * 256 ^ length new ≡ number_of row + by → None ≡ sum_in row by
sum-passes row new by carry h long is =
    let least : 1 * 256 ^ length new ≤ carry * 256 ^ length new = mul-le-mul_right (256 ^ length new) (omega arith) in
    let above : 256 ^ length row ≤ number_of row + by = rw (← long) (omega arith) in
    grind (arith, nat_tests)

spread : (p r q g carry n m by : ℕ) → r + q * 256 ≡ g + carry → n + carry * p ≡ m + by → r * p + n + q * (256 * p) ≡ g * p + m + by
spread p r q g carry n m by e f = omega (arith, ap (λ x. x * p) e)

-- one octet more, from the back
pub sum-step : (xs ys : List ℕ) (at carry by : ℕ) → at < length xs → length xs ≡ length ys → get_or xs at 0 ≡ get_or ys at 0
    → number_of (drop (at + 1) xs) + carry * 256 ^ (length xs - (at + 1)) ≡ number_of (drop (at + 1) ys) + by
    → number_of (drop at (set xs at ((get_or xs at 0 + carry) % 256))) + (get_or xs at 0 + carry) / 256 * 256 ^ (length xs - at) ≡ number_of (drop at ys) + by
sum-step xs ys at carry by h long same is =
    let s : ℕ = get_or xs at 0 + carry in
    let left : drop at (set xs at (s % 256)) ≡ s % 256 ∷ drop (at + 1) xs = drop-set xs at (s % 256) h in
    let next : suc at ≡ at + 1 = omega arith in
    let right : drop at ys ≡ get_or ys at 0 ∷ drop (at + 1) ys = drop-cons ys at 0 (omega arith) ∙ ap (λ k. get_or ys at 0 ∷ drop k ys) next in
    let more : 256 ^ (length xs - at) ≡ 256 * 256 ^ (length xs - (at + 1)) =
    ap (λ k. 256 ^ k) (let e : length xs - at ≡ suc (length xs - (at + 1)) = omega arith in e) ∙ pow-succ' 256 (length xs - (at + 1)) in
    let cut : s % 256 + s / 256 * 256 ≡ get_or ys at 0 + carry = mod-add-div' s 256 ∙ ap (λ x. x + carry) same in
    let p : ℕ = 256 ^ (length xs - (at + 1)) in
    let sides : s % 256 * p + number_of (drop (at + 1) xs) + s / 256 * (256 * p) ≡ get_or ys at 0 * p + number_of (drop (at + 1) ys) + by =
    spread p (s % 256) (s / 256) (get_or ys at 0) carry (number_of (drop (at + 1) xs)) (number_of (drop (at + 1) ys)) by cut is in
    let first : number_of (s % 256 ∷ drop (at + 1) xs) ≡ s % 256 * p + number_of (drop (at + 1) xs) =
    ap (λ k. s % 256 * 256 ^ k + number_of (drop (at + 1) xs)) (length-drop (at + 1) xs) in
    let second : number_of (get_or ys at 0 ∷ drop (at + 1) ys) ≡ get_or ys at 0 * p + number_of (drop (at + 1) ys) =
    ap (λ k. get_or ys at 0 * 256 ^ k + number_of (drop (at + 1) ys)) (length-drop (at + 1) ys ∙ ap (λ k. k - (at + 1)) (sym long)) in
    ap (λ n. n + s / 256 * 256 ^ (length xs - at)) (ap number_of left ∙ first)
    ∙ ap (λ k. s % 256 * p + number_of (drop (at + 1) xs) + s / 256 * k) more
    ∙ sides
    ∙ ap (λ n. n + by) (sym (ap number_of right ∙ second))

-- the same, as a loop has it: at the place before one where it holds
pub sum-back : (xs ys : List ℕ) (from carry by v : ℕ) → 0 < from → from ≤ length xs → length xs ≡ length ys → v ≡ get_or xs (from - 1) 0 → get_or xs (from - 1) 0 ≡ get_or ys (from - 1) 0
    → number_of (drop from xs) + carry * 256 ^ (length xs - from) ≡ number_of (drop from ys) + by
    → number_of (drop (from - 1) (set xs (from - 1) ((v + carry) % 256))) + (v + carry) / 256 * 256 ^ (length (set xs (from - 1) ((v + carry) % 256)) - (from - 1)) ≡ number_of (drop (from - 1) ys) + by
sum-back xs ys from carry by v h within long read same is =
    let at : ℕ = from - 1 in
    let e : from ≡ at + 1 = omega arith in
    let P : ℕ → Type 0 = λ k. number_of (drop k xs) + carry * 256 ^ (length xs - k) ≡ number_of (drop k ys) + by in
    let step = sum-step xs ys at carry by (omega arith) long same (subst P e is) in
    let Q : ℕ → Type 0 = λ u. number_of (drop at (set xs at ((u + carry) % 256))) + (u + carry) / 256 * 256 ^ (length xs - at) ≡ number_of (drop at ys) + by in
    let R : ℕ → Type 0 = λ n. number_of (drop at (set xs at ((v + carry) % 256))) + (v + carry) / 256 * 256 ^ (n - at) ≡ number_of (drop at ys) + by in
    subst R (sym (length-set xs at ((v + carry) % 256))) (subst Q (sym read) step)

-- all octets of a vector written over
pub refill-all : (n : ℕ) (new rest : List ℕ) → length new ≡ n → take n (new ++ rest) ≡ new
refill-all n new rest e = ap (λ k. take k (new ++ rest)) (sym e) ∙ take-append_seam new rest
