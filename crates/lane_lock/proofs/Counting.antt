-- Totals over lists in which one element is changed, and numbers within bounds.
use Rattle.std.proofs.Common.{◌≡◌, ℕ, zero, suc, ◌+◌, ◌<◌, ◌≤◌, ◌≢◌, List, [], ◌∷◌, ◌++◌, set, refl, sym, ap, arith}
use Rattle.std.proofs.lemmas.Bool.Decides.{nat_tests}
use mathlib.Core.Option.{some, some-injective, some-ne-none}
use lib.ListN.{get_elem?}
use Rattle.lane_lock.specs.Numbers.{same, within, total, Each}

pub same_here : (a : ℕ) → same a a ≡ 1
unfolding same
same_here a = grind (arith, nat_tests)

pub same_found : (a b : ℕ) → 0 < same a b → a ≡ b
unfolding same
same_found a b h = grind (arith, nat_tests)

pub same_apart : (a b : ℕ) → a ≢ b → same a b ≡ 0
unfolding same
same_apart a b h = grind (arith, nat_tests)

pub within_end : (low high n : ℕ) → low ≤ high → within low (suc high) n ≡ within low high n + same n high
unfolding same within
within_end low high n h = grind (arith, nat_tests)

pub within_start : (low high n : ℕ) → low < high → within low high n ≡ within (suc low) high n + same n low
unfolding same within
within_start low high n h = grind (arith, nat_tests)

pub within_none : (low high n : ℕ) → high ≤ low → within low high n ≡ 0
unfolding within
within_none low high n h = grind (arith, nat_tests)

pub within_most : (low high n : ℕ) → within low high n ≤ 1
unfolding within
within_most low high n = grind (arith, nat_tests)

pub within_low : (low high n : ℕ) → 0 < within low high n → low ≤ n
unfolding within
within_low low high n h = grind (arith, nat_tests)

pub within_high : (low high n : ℕ) → 0 < within low high n → n < high
unfolding within
within_high low high n h = grind (arith, nat_tests)

pub within_here : (low high n : ℕ) → low ≤ n → n < high → within low high n ≡ 1
unfolding within
within_here low high n h k = grind (arith, nat_tests)

module _ {A : Type 0} where
  pub set_found : (l : List A) (i : ℕ) (a b : A) → get_elem? l i ≡ some a → get_elem? (set l i b) i ≡ some b
  set_found [] i a b at = absurd (some-ne-none a (sym at))
  set_found (x ∷ xs) zero a b at = refl
  set_found (x ∷ xs) (suc i) a b at = set_found xs i a b at

  pub total_set : (f : A → ℕ) (l : List A) (i : ℕ) (a b : A) → get_elem? l i ≡ some a → total f (set l i b) + f a ≡ total f l + f b
  total_set f [] i a b at = absurd (some-ne-none a (sym at))
  total_set f (x ∷ xs) zero a b at = let e = ap f (some-injective x a at) in omega arith
  total_set f (x ∷ xs) (suc i) a b at = let h = total_set f xs i a b at in omega arith

  pub total_at : (f : A → ℕ) (l : List A) (i : ℕ) (a : A) → get_elem? l i ≡ some a → f a ≤ total f l
  total_at f [] i a at = absurd (some-ne-none a (sym at))
  total_at f (x ∷ xs) zero a at = let e = ap f (some-injective x a at) in omega arith
  total_at f (x ∷ xs) (suc i) a at = let h = total_at f xs i a at in omega arith

  pub total_two : (f : A → ℕ) (l : List A) (i j : ℕ) (a b : A) → get_elem? l i ≡ some a → get_elem? l j ≡ some b → j ≢ i → f a + f b ≤ total f l
  total_two f [] i j a b at bt ne = absurd (some-ne-none a (sym at))
  total_two f (x ∷ xs) zero zero a b at bt ne = absurd (ne refl)
  total_two f (x ∷ xs) zero (suc j) a b at bt ne = let e = ap f (some-injective x a at) in let h = total_at f xs j b bt in omega arith
  total_two f (x ∷ xs) (suc i) zero a b at bt ne = let e = ap f (some-injective x b bt) in let h = total_at f xs i a at in omega arith
  total_two f (x ∷ xs) (suc i) (suc j) a b at bt ne = let h = total_two f xs i j a b at bt (λ e. ne (ap suc e)) in omega arith

  pub total_append : (f : A → ℕ) (l r : List A) → total f (l ++ r) ≡ total f l + total f r
  total_append f [] r = omega arith
  total_append f (x ∷ xs) r = let h = total_append f xs r in omega arith

  pub Each_map : (P Q : A → Type 0) (l : List A) → ((a : A) → P a → Q a) → Each P l → Each Q l
  Each_map P Q [] f h = tt
  Each_map P Q (x ∷ xs) f h = (f x h.0, Each_map P Q xs f h.1)

  pub Each_append : (P : A → Type 0) (l r : List A) → Each P l → Each P r → Each P (l ++ r)
  Each_append P [] r h k = k
  Each_append P (x ∷ xs) r h k = (h.0, Each_append P xs r h.1 k)
