-- Lists and their elements by place, and what is known of an element that may be missing.
use Rattle.std.proofs.Common.{◌≡◌, ℕ, zero, suc, ◌+◌, ◌<◌, All, Option, Some, None, IsSomeAnd, List, [], ◌∷◌, ◌++◌, length, map, slice_index_or, refl, ◌∙◌, ap, subst, arith, length-append}
use Rattle.std.proofs.Math.ListN.{get_or-append}
use Rattle.std.proofs.Math.Seq.{get_or-append_seam}
use Rattle.lane_lock.specs.Numbers.{Each}
use Rattle.senders.specs.Pieces.{EachAt, EachBeside}

module _ {A : Type 0} where
  pub each_all : (P : A → Type 0) (xs : List A) → All P xs → Each P xs
  each_all P [] all = tt
  each_all P (x ∷ xs) all = (all 0 x (omega arith), each_all P xs (λ k d lt. all (suc k) d (omega (arith, lt))))

  pub at_place : (P : ℕ → A → Type 0) (from : ℕ) (xs : List A) (k : ℕ) (d : A) → k < length xs → EachAt P from xs → P (from + k) (slice_index_or xs k d)
  at_place P from [] k d lt each = absurd (omega (arith, lt))
  at_place P from (x ∷ xs) zero d lt each = subst (λ (n : ℕ). P n x) (omega arith) each.0
  at_place P from (x ∷ xs) (suc k) d lt each = subst (λ (n : ℕ). P n (slice_index_or xs k d)) (omega arith) (at_place P (from + 1) xs k d (omega (arith, lt)) each.1)

  pub all_at : (P : ℕ → A → Type 0) (Q : A → Type 0) (from : ℕ) (xs : List A) → ((place : ℕ) (x : A) → P place x → Q x) → EachAt P from xs → All Q xs
  all_at P Q from xs f each = λ k d lt. f (from + k) (slice_index_or xs k d) (at_place P from xs k d lt each)

module _ {A B : Type 0} where
  pub map_at : (f : A → B) (xs : List A) (k : ℕ) (d : A) (e : B) → k < length xs → slice_index_or (map f xs) k e ≡ f (slice_index_or xs k d)
  map_at f [] k d e lt = absurd (omega (arith, lt))
  map_at f (x ∷ xs) zero d e lt = refl
  map_at f (x ∷ xs) (suc k) d e lt = map_at f xs k d e (omega (arith, lt))

  pub map_length : (f : A → B) (xs : List A) → length (map f xs) ≡ length xs
  map_length f [] = refl
  map_length f (x ∷ xs) = ap suc (map_length f xs)

  pub beside_length : (P : ℕ → A → B → Type 0) (from : ℕ) (xs : List A) (ys : List B) → EachBeside P from xs ys → length ys ≡ length xs
  beside_length P from [] [] each = refl
  beside_length P from [] (y ∷ ys) each = absurd each
  beside_length P from (x ∷ xs) [] each = absurd each
  beside_length P from (x ∷ xs) (y ∷ ys) each = ap suc (beside_length P (from + 1) xs ys each.1)

  pub beside_at : (P : ℕ → A → B → Type 0) (from : ℕ) (xs : List A) (ys : List B) (k : ℕ) (a : A) (b : B) → k < length xs → EachBeside P from xs ys → P (from + k) (slice_index_or xs k a) (slice_index_or ys k b)
  beside_at P from [] ys k a b lt each = absurd (omega (arith, lt))
  beside_at P from (x ∷ xs) [] k a b lt each = absurd each
  beside_at P from (x ∷ xs) (y ∷ ys) zero a b lt each = subst (λ (n : ℕ). P n x y) (omega arith) each.0
  beside_at P from (x ∷ xs) (y ∷ ys) (suc k) a b lt each =
      subst (λ (n : ℕ). P n (slice_index_or xs k a) (slice_index_or ys k b)) (omega arith) (beside_at P (from + 1) xs ys k a b (omega (arith, lt)) each.1)

  pub all_beside : (P : ℕ → A → Type 0) (R : ℕ → A → B → Type 0) (Q : B → Type 0) (from : ℕ) (xs : List A) (ys : List B)
      → ((place : ℕ) (a : A) (b : B) → P place a → R place a b → Q b) → EachAt P from xs → EachBeside R from xs ys → Each Q ys
  all_beside P R Q from [] [] f each beside = tt
  all_beside P R Q from [] (y ∷ ys) f each beside = absurd beside
  all_beside P R Q from (x ∷ xs) [] f each beside = absurd beside
  all_beside P R Q from (x ∷ xs) (y ∷ ys) f each beside = (f from x y each.0 beside.0, all_beside P R Q (from + 1) xs ys f each.1 beside.1)

pub some_of : {A : Type 0} (xs : List A) (n : ℕ) → n < length xs → A
some_of [] n below = absurd (omega (arith, below))
some_of (x ∷ xs) n below = x

pub at_from : {A : Type 0} (P : ℕ → A → Type 0) (k : ℕ) (xs : List A) → ((place : ℕ) (x : A) → place < length xs → P (k + place) (slice_index_or xs place x)) → EachAt P k xs
at_from P k [] each = tt
at_from P k (x ∷ xs) each = (
  subst (λ (n : ℕ). P n x) (omega arith) (each 0 x (omega arith)),
  at_from P (k + 1) xs (λ place d lt. subst (λ (n : ℕ). P n (slice_index_or xs place d)) (omega arith) (each (suc place) d (omega (arith, lt)))),
)

-- from the first place on
pub at_first : {A : Type 0} (P : ℕ → A → Type 0) (xs : List A) → ((place : ℕ) (x : A) → place < length xs → P place (slice_index_or xs place x)) → EachAt P 0 xs
at_first P xs each = at_from P 0 xs (λ place x lt. subst (λ (n : ℕ). P n (slice_index_or xs place x)) (omega arith) (each place x lt))

pub beside_from : {A B : Type 0} (P : ℕ → A → B → Type 0) (k : ℕ) (xs : List A) (ys : List B) → length ys ≡ length xs
    → ((place : ℕ) (x : A) (y : B) → place < length xs → P (k + place) (slice_index_or xs place x) (slice_index_or ys place y)) → EachBeside P k xs ys
beside_from P k [] [] same each = tt
beside_from P k [] (y ∷ ys) same each = absurd (omega (arith, same))
beside_from P k (x ∷ xs) [] same each = absurd (omega (arith, same))
beside_from P k (x ∷ xs) (y ∷ ys) same each = (
  subst (λ (n : ℕ). P n x y) (omega arith) (each 0 x y (omega arith)),
  beside_from P (k + 1) xs ys (omega (arith, same))
      (λ place d e lt. subst (λ (n : ℕ). P n (slice_index_or xs place d) (slice_index_or ys place e)) (omega arith) (each (suc place) d e (omega (arith, lt)))),
)

pub beside_map : {A B C : Type 0} (P : ℕ → B → C → Type 0) (f : A → B) (k : ℕ) (xs : List A) (ys : List C) → EachBeside (λ n x y. P n (f x) y) k xs ys → EachBeside P k (map f xs) ys
beside_map P f k [] [] each = tt
beside_map P f k [] (y ∷ ys) each = absurd each
beside_map P f k (x ∷ xs) [] each = absurd each
beside_map P f k (x ∷ xs) (y ∷ ys) each = (each.0, beside_map P f (k + 1) xs ys each.1)

pub beside_append : {A B : Type 0} (P : ℕ → A → B → Type 0) (k : ℕ) (xs : List A) (ys : List B) (more : List A) (others : List B) → EachBeside P k xs ys → EachBeside P (k + length xs) more others
    → EachBeside P k (xs ++ more) (ys ++ others)
beside_append P k [] [] more others each rest = subst (λ (n : ℕ). EachBeside P n more others) (omega arith) rest
beside_append P k [] (y ∷ ys) more others each rest = absurd each
beside_append P k (x ∷ xs) [] more others each rest = absurd each
beside_append P k (x ∷ xs) (y ∷ ys) more others each rest = (each.0, beside_append P (k + 1) xs ys more others each.1 (subst (λ (n : ℕ). EachBeside P n more others) (omega arith) rest))

pub all_behind : {A : Type 0} (P : A → Type 0) (xs ys : List A) → All P (xs ++ ys) → All P ys
all_behind P [] ys all = all
all_behind P (x ∷ xs) ys all = all_behind P xs ys (λ k d lt. all (suc k) d (omega (arith, lt)))

pub map_last : {A B : Type 0} (f : A → B) (xs : List A) (x : A) → map f (xs ++ x ∷ []) ≡ map f xs ++ f x ∷ []
map_last f [] x = refl
map_last f (y ∷ xs) x = ap (λ l. f y ∷ l) (map_last f xs x)

-- what is known of each place of a list is known of its last element, and of each of the others
pub place_last : {A : Type 0} (P : ℕ → A → Type 0) (rest whole : List A) (last : A) → whole ≡ rest ++ last ∷ [] → ((place : ℕ) (x : A) → place < length whole → P place (slice_index_or whole place x)) → P (length rest) last
place_last P rest whole last splits each =
    subst (P (length rest)) (ap (λ l. slice_index_or l (length rest) last) splits ∙ get_or-append_seam rest last [] last)
    (each (length rest) last (let a = ap length splits in let b = length-append rest (last ∷ []) in omega (arith, a, b)))

pub place_front : {A : Type 0} (P : ℕ → A → Type 0) (rest whole : List A) (last : A) → whole ≡ rest ++ last ∷ [] → ((place : ℕ) (x : A) → place < length whole → P place (slice_index_or whole place x))
    → (place : ℕ) (x : A) → place < length rest → P place (slice_index_or rest place x)
place_front P rest whole last splits each place x lt =
    subst (P place) (ap (λ l. slice_index_or l place x) splits ∙ get_or-append rest (last ∷ []) x place lt)
    (each place x (let a = ap length splits in let b = length-append rest (last ∷ []) in omega (arith, a, b, lt)))

pub front_count : {A : Type 0} (rest whole : List A) (last : A) → whole ≡ rest ++ last ∷ [] → length rest + 1 ≡ length whole
front_count rest whole last splits = let a = ap length splits in let b = length-append rest (last ∷ []) in omega (arith, a, b)

-- ---- an element that may be missing

-- what two things say of what is there
pub both_some : {X R : Type 0} (P Q : X → Type 0) (o : Option X) → ((x : X) → P x → Q x → R) → IsSomeAnd o P → IsSomeAnd o Q → R
both_some P Q None f p q = absurd p
both_some P Q (Some x) f p q = f x p q

pub both_and : {X : Type 0} (P Q : X → Type 0) (o : Option X) → IsSomeAnd o P → IsSomeAnd o Q → IsSomeAnd o (λ x. P x × Q x)
both_and P Q None p q = absurd p
both_and P Q (Some x) p q = (p, q)
