-- Totals over lists, numbers within bounds, and lists that begin others.
use Rattle.std.specs.Prelude.{◌≡◌, ℕ, ◌+◌, ◌⊎◌, ◌&&◌, ◌==◌, leb, ltb, List, [], ◌∷◌, ◌++◌, length, drop, if◌then◌else◌}

-- 1 where the numbers are the same, else 0
unfoldable pub same : ℕ → ℕ → ℕ
same a b = if a == b then 1 else 0

-- 1 where n is low or more and below high, else 0
unfoldable pub within : ℕ → ℕ → ℕ → ℕ
within low high n = if leb low n && ltb n high then 1 else 0

-- the numbers that f gives, added up
abbrev pub total : {A : Type 0} → (A → ℕ) → List A → ℕ
total f [] = 0
total f (x ∷ xs) = f x + total f xs

-- P holds of each element
abbrev pub Each : {A : Type 0} → (A → Type 0) → List A → Type 0
Each P [] = Unit {0}
Each P (x ∷ xs) = P x × Each P xs

-- x is an element
abbrev pub IsIn : {A : Type 0} → A → List A → Type 0
IsIn x [] = ⊥
IsIn x (y ∷ ys) = (y ≡ x) ⊎ IsIn x ys

-- what the longer list has behind as many elements as the other has
abbrev pub behind : {A : Type 0} → List A → List A → List A
behind xs ys = drop (length xs) ys

-- the second list begins with the first
abbrev pub Begins : {A : Type 0} → List A → List A → Type 0
Begins xs ys = ys ≡ xs ++ behind xs ys
