-- What is made of a list, place by place.
use Rattle.std.proofs.Common.{◌≡◌, ℕ, zero, suc, ◌+◌, ◌≤◌, List, [], ◌∷◌, ◌++◌, length, drop, take, refl, ap, subst, arith}
use Rattle.senders.specs.Pieces.{EachBeside}

no_head : {A : Type 0} {x : A} {l : List A} → [] ≡ x ∷ l → ⊥
no_head h = cc

-- one element more
pub beside_more : {A B : Type 0} (P : ℕ → A → B → Type 0) (k n : ℕ) (xs : List A) (ys : List B) (x : A) (more : List A) (y : B) → drop n xs ≡ x ∷ more
    → EachBeside P k (take n xs) ys → P (k + n) x y → EachBeside P k (take (suc n) xs) (ys ++ y ∷ [])
beside_more P k zero [] ys x more y e each now = absurd (no_head e)
beside_more P k zero (z ∷ xs) [] x more y e each now = (subst (λ a. P k a y) (first e) (subst (λ m. P m x y) (omega arith) now), tt)
  where
    first : z ∷ xs ≡ x ∷ more → x ≡ z
    first h = cc
beside_more P k zero (z ∷ xs) (w ∷ ys) x more y e each now = absurd each
beside_more P k (suc n) [] ys x more y e each now = absurd (no_head e)
beside_more P k (suc n) (z ∷ xs) [] x more y e each now = absurd each
beside_more P k (suc n) (z ∷ xs) (w ∷ ys) x more y e each now = (each.0, beside_more P (k + 1) n xs ys x more y e each.1 (subst (λ m. P m x y) (omega arith) now))

-- as many as there are: all was taken
pub all_taken : {A : Type 0} (n : ℕ) (xs : List A) → length xs ≤ n → take n xs ≡ xs
all_taken zero [] le = refl
all_taken zero (x ∷ xs) le = absurd (omega (arith, le))
all_taken (suc n) [] le = refl
all_taken (suc n) (x ∷ xs) le = ap (λ l. x ∷ l) (all_taken n xs (omega (arith, le)))
