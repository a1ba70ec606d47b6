-- Laws of lists, options and conditions, which other crates cite.
use Rattle.std.proofs.Common.{◌≡◌, ℕ, zero, suc, Bool, true, false, ◌||◌, ◌⊎◌, inl, inr, Option, Some, None, is_none, List, [], ◌∷◌, ◌++◌, map, reverse, slice_get, refl, sym, ap}
use Rattle.std.specs.Option.{option_or, option_map, option_and_then}
use Rattle.std.specs.List.{list_any, list_all, flat_map}
use Rattle.std.proofs.lemmas.Bool.{and_parts}
use Rattle.std.proofs.lemmas.List.{reverse-append}
use Rattle.ota_core.specs.History.{first_some}
use Rattle.world_core.specs.Members.{In}
use Rattle.world_core.specs.Condition.{refused_unless}
use Rattle.world_core.specs.declared.refusals.NotAllowed.{NotAllowed}

pub true_not_false : true ≡ false → ⊥
true_not_false e = cc

pub In-left : {X : Type 0} (x : X) (xs ys : List X) → In x xs → In x (xs ++ ys)
In-left x [] ys h = absurd h
In-left x (y ∷ xs) ys h = elim h [ inl e ↦ inl e | inr i ↦ inr (In-left x xs ys i) ]

pub In-right : {X : Type 0} (x : X) (xs ys : List X) → In x ys → In x (xs ++ ys)
In-right x [] ys h = h
In-right x (y ∷ xs) ys h = inr (In-right x xs ys h)

pub In-cases : {X : Type 0} (x : X) (xs ys : List X) → In x (xs ++ ys) → In x xs ⊎ In x ys
In-cases x [] ys h = inr h
In-cases x (y ∷ xs) ys h = elim h [
  | inl e ↦ inl (inl e)
  | inr i ↦ elim (In-cases x xs ys i) [ inl left ↦ inl (inr left) | inr right ↦ inr right ]
]

pub In-push_cases : {X : Type 0} (x : X) (xs : List X) (y : X) → In x (xs ++ y ∷ []) → In x xs ⊎ (x ≡ y)
In-push_cases x xs y h = elim (In-cases x xs (y ∷ []) h) [ inl left ↦ inl left | inr right ↦ elim right [ inl e ↦ inr e | inr none ↦ absurd none ] ]

pub In-push : {X : Type 0} (xs : List X) (y : X) → In y (xs ++ y ∷ [])
In-push xs y = In-right y xs (y ∷ []) (inl refl)

reverse_first : {X : Type 0} (x : X) (xs : List X) → reverse (x ∷ xs) ≡ reverse xs ++ x ∷ []
reverse_first x xs = reverse-append (x ∷ []) xs

pub In-reverse : {X : Type 0} (x : X) (xs : List X) → In x xs → In x (reverse xs)
In-reverse x [] h = absurd h
In-reverse x (y ∷ xs) h = rw (reverse_first y xs) (elim h [
  | inl e ↦ In-right x (reverse xs) (y ∷ []) (inl e)
  | inr i ↦ In-left x (reverse xs) (y ∷ []) (In-reverse x xs i)
])

pub In-from_reverse : {X : Type 0} (x : X) (xs : List X) → In x (reverse xs) → In x xs
In-from_reverse x [] h = h
In-from_reverse x (y ∷ xs) h = elim (In-push_cases x (reverse xs) y (rw (reverse_first y xs) at h)) [
  | inl i ↦ inr (In-from_reverse x xs i)
  | inr e ↦ inl e
]

pub In-map : {X Y : Type 0} (f : X → Y) (x : X) (xs : List X) → In x xs → In (f x) (map f xs)
In-map f x [] h = absurd h
In-map f x (y ∷ xs) h = elim h [ inl e ↦ inl (ap f e) | inr i ↦ inr (In-map f x xs i) ]

pub In-flat_map : {X Y : Type 0} (f : X → List Y) (x : X) (y : Y) (xs : List X) → In x xs → In y (f x) → In y (flat_map f xs)
In-flat_map f x y [] h i = absurd h
In-flat_map f x y (z ∷ xs) h i = elim h [
  | inl e ↦ In-left y (f z) (flat_map f xs) (rw (← e) i)
  | inr later ↦ In-right y (f z) (flat_map f xs) (In-flat_map f x y xs later i)
]

pub In-from_flat_map : {X Y : Type 0} (f : X → List Y) (y : Y) (xs : List X) → In y (flat_map f xs) → (x : X) × In x xs × In y (f x)
In-from_flat_map f y [] h = absurd h
In-from_flat_map f y (x ∷ xs) h = elim (In-cases y (f x) (flat_map f xs) h) [
  | inl here ↦ (x, inl refl, here)
  | inr later ↦ (let found = In-from_flat_map f y xs later in (found.0, inr found.1, found.2))
]

pub slice_get-In : {X : Type 0} (xs : List X) (i : ℕ) (x : X) → slice_get xs i ≡ Some x → In x xs
slice_get-In [] i x h = cc
slice_get-In (y ∷ xs) zero x h = inl (let e : y ≡ x = cc in sym e)
slice_get-In (y ∷ xs) (suc i) x h = inr (slice_get-In xs i x h)

pub slice_get-left : {X : Type 0} (xs ys : List X) (i : ℕ) (x : X) → slice_get xs i ≡ Some x → slice_get (xs ++ ys) i ≡ Some x
slice_get-left [] ys i x h = cc
slice_get-left (y ∷ xs) ys zero x h = h
slice_get-left (y ∷ xs) ys (suc i) x h = slice_get-left xs ys i x h

first_kept : {B : Type 0} (o p q : Option B) (y : B) → option_or o p ≡ Some y → (p ≡ Some y → q ≡ Some y) → option_or o q ≡ Some y
first_kept None p q y h later = later h
first_kept (Some x) p q y h later = h

pub first_some-left : {A B : Type 0} (f : A → Option B) (xs ys : List A) (y : B) → first_some f xs ≡ Some y → first_some f (xs ++ ys) ≡ Some y
first_some-left f [] ys y h = cc
first_some-left f (x ∷ xs) ys y h = first_kept (f x) (first_some f xs) (first_some f (xs ++ ys)) y h (first_some-left f xs ys y)

-- a test that passes on each element passes on one of them
pub list_all-In : {X : Type 0} (p : X → Bool) (xs : List X) (x : X) → list_all p xs ≡ true → In x xs → p x ≡ true
list_all-In p [] x all h = absurd h
list_all-In p (y ∷ xs) x all h =
    let parts : (p y ≡ true) × (list_all p xs ≡ true) = and_parts (p y) (list_all p xs) all in
    elim h [ inl e ↦ rw e parts.0 | inr i ↦ list_all-In p xs x parts.1 i ]

pub or_cases : (a b : Bool) → (a || b) ≡ true → (a ≡ true) ⊎ (b ≡ true)
or_cases true b h = inl refl
or_cases false b h = inr h

-- a test that passes somewhere passes on an element
pub list_any-In : {X : Type 0} (p : X → Bool) (xs : List X) → list_any p xs ≡ true → (x : X) × In x xs × (p x ≡ true)
list_any-In p [] h = cc
list_any-In p (y ∷ xs) h = elim (or_cases (p y) (list_any p xs) h) [
  | inl here ↦ (y, inl refl, here)
  | inr later ↦ (let found = list_any-In p xs later in (found.0, inr found.1, found.2))
]

-- a test that passes on an element passes somewhere
pub list_any-from_In : {X : Type 0} (p : X → Bool) (xs : List X) (x : X) → In x xs → p x ≡ true → list_any p xs ≡ true
list_any-from_In p [] x h passes = absurd h
list_any-from_In p (y ∷ xs) x h passes = elim h [
  | inl e ↦ (let here : p y ≡ true = rw (← e) passes in rw here refl)
  | inr i ↦ or_right (p y) (list_any p xs) (list_any-from_In p xs x i passes)
]
  where
    or_right : (a b : Bool) → b ≡ true → (a || b) ≡ true
    or_right true b h = refl
    or_right false b h = h

pub holds : (test : Bool) (refusal : NotAllowed) → refused_unless test refusal ≡ None → test ≡ true
holds true refusal h = refl
holds false refusal h = cc

pub none_before : {A B : Type 0} (f : A → B) (o : Option A) → option_map f o ≡ None → o ≡ None
none_before f None h = refl
none_before f (Some x) h = cc

pub is_none-true : {A : Type 0} (o : Option A) → is_none o ≡ true → o ≡ None
is_none-true None h = refl
is_none-true (Some x) h = cc

-- what an option gives after a step is there
pub and_then-some : {A B : Type 0} (f : A → Option B) (o : Option A) (y : B) → option_and_then f o ≡ Some y → (x : A) × (o ≡ Some x) × (f x ≡ Some y)
and_then-some f None y h = cc
and_then-some f (Some x) y h = (x, refl, h)

pub map-some : {A B : Type 0} (f : A → B) (o : Option A) (y : B) → option_map f o ≡ Some y → (x : A) × (o ≡ Some x) × (f x ≡ y)
map-some f None y h = cc
map-some f (Some x) y h = (x, refl, cc)
