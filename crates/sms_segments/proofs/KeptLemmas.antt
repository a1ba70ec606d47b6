-- What is kept after a piece is kept, or a packet is forgotten, and how long a joined packet is.
use Rattle.std.proofs.Common.{◌≡◌, ℕ, zero, suc, ◌+◌, ◌-◌, ◌*◌, ◌<◌, ◌≤◌, Bool, true, false, ◌≢◌, ◌&&◌, cond, eqb, leb, Option, Some, None, List, [], ◌++◌, length, refl, sym, ap, subst, ◌∙◌, arith, length-append, add-zero, add-one, inl, inr}
use Rattle.std.specs.Prelude.{unwrap_or, IfSome}
use Rattle.std.specs.Option.{option_map}
use Rattle.std.proofs.lemmas.Bool.{and_parts, and_from, eqb-true, eq-eqb, ne_eqb, cases_eq, cases_Bool, both_ways, false_from_ne_true, le-leb, leb-true}
use Rattle.ota_core.specs.declared.references.Reference.{Reference}
use Rattle.ota_core.specs.declared.references.Reference.TheVariants.{Short, Wide}
use Rattle.sms_segments.specs.declared.concatenations.Concatenation.{Concatenation}
use Rattle.sms_segments.specs.declared.kept_pieces.Place.{Place}
use Rattle.sms_segments.specs.contracts.kept_pieces.PlacePartialEq.TheImpl as place_eq
use Rattle.ota_core.specs.contracts.references.ReferencePartialEq.TheImpl as reference_eq
use Rattle.arrayvec.specs.ArrayVec.{ArrayVec}
use Rattle.std.specs.HashMap.{HashMap, get}
use Rattle.std.specs.Map.{lookup}
use Rattle.sms_segments.specs.Assembled.{Pieces, is_same, is_same_reference, joined, no_pieces, with_piece}
use Rattle.sms_segments.specs.Kept.{AllFit, FitsAt, Pile, is_at, kept_in, kept_with, kept_without, octets_at_most}

-- ---- the same packet

same_reference : (a b : Reference) → is_same_reference a b ≡ true → a ≡ b
same_reference (Short x) (Short y) same = ap Short (eqb-true x y same)
same_reference (Wide x) (Wide y) same = ap Wide (eqb-true x y same)
same_reference (Short x) (Wide y) same = cc
same_reference (Wide x) (Short y) same = cc

own_reference : (a : Reference) → is_same_reference a a ≡ true
own_reference (Short x) = eq-eqb x x refl
own_reference (Wide x) = eq-eqb x x refl

same_parts : (a b : Concatenation) → a.card.0 ≡ b.card.0 → a.reference ≡ b.reference → a.total ≡ b.total → a ≡ b
same_parts a b card reference total = λ i. record { card = record { 0 = card i }; reference = reference i; total = total i }

pub is_same-true : (a b : Concatenation) → is_same a b ≡ true → a ≡ b
is_same-true a b same =
    let outer = and_parts (eqb a.card.0 b.card.0 && is_same_reference a.reference b.reference) (eqb a.total b.total) same in
    let inner = and_parts (eqb a.card.0 b.card.0) (is_same_reference a.reference b.reference) outer.0 in
    same_parts a b (eqb-true _ _ inner.0) (same_reference a.reference b.reference inner.1) (eqb-true _ _ outer.1)

pub is_same-self : (a : Concatenation) → is_same a a ≡ true
is_same-self a =
    and_from _ _ (and_from _ _ (eq-eqb a.card.0 a.card.0 refl) (own_reference a.reference)) (eq-eqb a.total a.total refl)

-- ---- what a map finds

equal_reference : (a b : Reference) → reference_eq.ghosts.eq a b ≡ is_same_reference a b
equal_reference (Short x) (Short y) = refl
equal_reference (Wide x) (Wide y) = refl
equal_reference (Short x) (Wide y) = refl
equal_reference (Wide x) (Short y) = refl

grouped : (a b c : Bool) → (a && (b && c)) ≡ ((a && b) && c)
grouped true b c = refl
grouped false b c = refl

-- a key is equal to a place just where it is that place
pub eq_at : (of : Concatenation) (place : ℕ) (key : Place) → place_eq.ghosts.eq (record { of = of; place = place }) key ≡ is_at of place key
eq_at of place key =
    ap (λ r. (eqb of.card.0 key.of.card.0 && (r && eqb of.total key.of.total)) && eqb place key.place) (equal_reference of.reference key.of.reference)
    ∙ ap (λ b. b && eqb place key.place) (grouped (eqb of.card.0 key.of.card.0) (is_same_reference of.reference key.of.reference) (eqb of.total key.of.total))

-- what is kept is what the map finds
pub kept-get : {S : Type 0} (m : HashMap Place (ArrayVec ℕ) S) (of : Concatenation) (place : ℕ)
    → kept_in m.entries of place ≡ option_map (λ piece. piece.items) (get place_eq.ghosts.eq m (record { of = of; place = place }))
kept-get m of place = ap (λ test. option_map (λ piece. piece.items) (lookup test m.entries)) (λ i key. sym (eq_at of place key) i)

eqb-sym : (a b : ℕ) → eqb a b ≡ eqb b a
eqb-sym a b = elim (cases_eq a b) [
  | inl same ↦ eq-eqb a b same ∙ sym (eq-eqb b a (sym same))
  | inr other ↦ ne_eqb a b other ∙ sym (ne_eqb b a (λ e. other (sym e)))
]

-- the same place of the same packet
same_place : (of : Concatenation) (place : ℕ) (at : Place) → place_eq.ghosts.eq at (record { of = of; place = place }) ≡ (is_same at.of of && eqb place at.place)
same_place of place at = eq_at at.of at.place (record { of = of; place = place }) ∙ ap (λ b. is_same at.of of && b) (eqb-sym at.place place)

-- what is kept once a piece is put at its place
kept-put-at : {S : Type 0} (m n : HashMap Place (ArrayVec ℕ) S) (at : Place) (piece : ArrayVec ℕ)
    → ((key : Place) → get place_eq.ghosts.eq n key ≡ cond (place_eq.ghosts.eq at key) (Some piece) (get place_eq.ghosts.eq m key))
    → (of : Concatenation) (place : ℕ) → kept_in n.entries of place ≡ kept_with at.of at.place piece.items m.entries of place
kept-put-at m n at piece puts of place = kept-get n of place ∙ ap (option_map (λ piece. piece.items)) (puts (record { of = of; place = place }))
    ∙ by_test (is_same at.of of) (eqb place at.place) (same_place of place at) ∙ apart (is_same at.of of) where
      apart : (one : Bool) → cond one (cond (eqb place at.place) (Some piece.items) (kept_in m.entries of place)) (kept_in m.entries of place)
          ≡ cond one (with_piece at.place piece.items (kept_in m.entries of)) (kept_in m.entries of) place
      apart true = refl
      apart false = refl

      by_test : (one here : Bool) → place_eq.ghosts.eq at (record { of = of; place = place }) ≡ (one && here)
          → option_map (λ piece. piece.items) (cond (place_eq.ghosts.eq at (record { of = of; place = place })) (Some piece) (get place_eq.ghosts.eq m (record { of = of; place = place })))
          ≡ cond one (cond here (Some piece.items) (kept_in m.entries of place)) (kept_in m.entries of place)
      by_test true true is = rw is refl
      by_test true false is = rw is (sym (kept-get m of place))
      by_test false here is = rw is (sym (kept-get m of place))

pub kept-put : {S : Type 0} (m n : HashMap Place (ArrayVec ℕ) S) (at : Place) (piece : ArrayVec ℕ)
    → ((key : Place) → get place_eq.ghosts.eq n key ≡ cond (place_eq.ghosts.eq at key) (Some piece) (get place_eq.ghosts.eq m key))
    → (of : Concatenation) → kept_in n.entries of ≡ kept_with at.of at.place piece.items m.entries of
kept-put m n at piece puts of = λ i place. kept-put-at m n at piece puts of place i

-- what is kept once the piece at a place is taken out
pub kept-drop : {S : Type 0} (m n : HashMap Place (ArrayVec ℕ) S) (at : Place)
    → ((key : Place) → get place_eq.ghosts.eq n key ≡ cond (place_eq.ghosts.eq at key) None (get place_eq.ghosts.eq m key))
    → (of : Concatenation) (place : ℕ) → kept_in n.entries of place ≡ cond (is_same at.of of && eqb place at.place) None (kept_in m.entries of place)
kept-drop m n at drops of place = kept-get n of place ∙ ap (option_map (λ piece. piece.items)) (drops (record { of = of; place = place }))
    ∙ by_test (is_same at.of of && eqb place at.place) (same_place of place at) where
      by_test : (here : Bool) → place_eq.ghosts.eq at (record { of = of; place = place }) ≡ here
          → option_map (λ piece. piece.items) (cond (place_eq.ghosts.eq at (record { of = of; place = place })) None (get place_eq.ghosts.eq m (record { of = of; place = place })))
          ≡ cond here None (kept_in m.entries of place)
      by_test true is = rw is refl
      by_test false is = rw is (sym (kept-get m of place))

-- what is kept where the map finds the same
pub kept-same : {S : Type 0} (m n : HashMap Place (ArrayVec ℕ) S)
    → ((key : Place) → get place_eq.ghosts.eq n key ≡ get place_eq.ghosts.eq m key)
    → (of : Concatenation) → kept_in n.entries of ≡ kept_in m.entries of
kept-same m n same of = λ i place. (kept-get n of place ∙ ap (option_map (λ piece. piece.items)) (same (record { of = of; place = place })) ∙ sym (kept-get m of place)) i

-- ---- taking a packet out, place by place

-- one place more is taken out
pub drop-more : (one : Bool) (place before : ℕ) (o : Option (List ℕ))
    → cond (one && eqb place (before + 1)) None (cond (one && (leb 1 place && leb place before)) None o)
    ≡ cond (one && (leb 1 place && leb place (before + 1))) None o
drop-more false place before o = refl
drop-more true place before o = elim (cases_eq place (before + 1)) [
  | inl here ↦ rw (eq-eqb place (before + 1) here, le-leb 1 place (omega arith), le-leb place (before + 1) (omega arith)) refl
  | inr other ↦ rw (ne_eqb place (before + 1) other) (ap (λ b. cond (leb 1 place && b) None o) (both_leb place before other))
] where
  both_leb : (place before : ℕ) → place ≢ before + 1 → leb place before ≡ leb place (before + 1)
  both_leb place before other = elim (cases_Bool (leb place before)) [
    | inl within ↦ within ∙ sym (le-leb place (before + 1) (omega (arith, leb-true place before within)))
    | inr beyond ↦ beyond ∙ sym (false_from_ne_true _ (λ le. both_ways _ beyond (le-leb place before (omega (arith, leb-true place (before + 1) le, other)))))
  ]

abbrev no : (X : Type 0) → Option X
no X = None

either : {X : Type 0} (b : Bool) → cond b (no X) (no X) ≡ no X
either true = refl
either false = refl

-- once each place of a packet is taken out, nothing of it is kept
taken-out : (of other : Concatenation) (place : ℕ) (o : Option (List ℕ)) → of ≡ other → IfSome o (FitsAt other place)
    → cond (leb 1 place && leb place of.total) None o ≡ None
taken-out of other place None same fits = either (leb 1 place && leb place of.total)
taken-out of other place (Some octets) same fits =
    rw (le-leb 1 place fits.0, le-leb place of.total (omega (arith, fits.1, ap (λ k. k.total) same))) refl

pub drop-all : (pieces : Pile) (of other : Concatenation) (place : ℕ) → AllFit pieces
    → cond (is_same of other && (leb 1 place && leb place of.total)) None (kept_in pieces other place) ≡ kept_without of pieces other place
drop-all pieces of other place fit = elim (cases_Bool (is_same of other)) [
  | inl one ↦ rw one (taken-out of other place (kept_in pieces other place) (is_same-true of other one) (fit other place))
  | inr another ↦ rw another refl
]

-- ---- pieces that fit

-- where the same is kept, all fit as before
pub fits-same : (old new : Pile) → ((of : Concatenation) → kept_in new of ≡ kept_in old of) → AllFit old → AllFit new
fits-same old new same fit of place = subst (λ o. IfSome o (FitsAt of place)) (λ i. sym (same of) i place) (fit of place)

fits-none : (of : Concatenation) (place : ℕ) (here : Bool) (o : Option (List ℕ)) → IfSome o (FitsAt of place) → IfSome (cond here None o) (FitsAt of place)
fits-none of place true o fit = tt
fits-none of place false o fit = fit

-- where pieces are taken out and others stay, all fit as before
pub fits-drop : (old new : Pile) (gone : Concatenation → ℕ → Bool) → ((of : Concatenation) (place : ℕ) → kept_in new of place ≡ cond (gone of place) None (kept_in old of place)) → AllFit old → AllFit new
fits-drop old new gone drops fit of place = subst (λ o. IfSome o (FitsAt of place)) (sym (drops of place)) (fits-none of place (gone of place) (kept_in old of place) (fit of place))

-- where a piece that fits is put, all fit
fits-with : (arrived : Concatenation) (at : ℕ) (octets : List ℕ) (old : Pile) → FitsAt arrived at octets → AllFit old
    → (of : Concatenation) (place : ℕ) → IfSome (kept_with arrived at octets old of place) (FitsAt of place)
fits-with arrived at octets old fits fit of place = elim (cases_Bool (is_same arrived of)) [
  | inr another ↦ rw another (fit of place)
  | inl one ↦ elim (cases_eq place at) [
    | inr other ↦ rw (one, ne_eqb place at other) (fit of place)
    | inl here ↦
        let same = is_same-true arrived of one in
        rw (one, eq-eqb place at here) (subst (λ k. FitsAt k place octets) same (subst (λ p. FitsAt arrived p octets) (sym here) fits))
  ]
]

pub fits-put : (old new : Pile) (arrived : Concatenation) (at : ℕ) (octets : List ℕ)
    → ((of : Concatenation) → kept_in new of ≡ kept_with arrived at octets old of) → FitsAt arrived at octets → AllFit old → AllFit new
fits-put old new arrived at octets puts fits fit of place = subst (λ o. IfSome o (FitsAt of place)) (λ i. sym (puts of) i place) (fits-with arrived at octets old fits fit of place)

-- ---- lengths

joined-below : (n place : ℕ) (octets : List ℕ) (pieces : Pieces) → n < place → joined n (with_piece place octets pieces) ≡ joined n pieces
joined-below zero place octets pieces below = refl
joined-below (suc n) place octets pieces below =
    rw (ne_eqb (suc n) place (λ e. omega arith)) (ap (λ s. s ++ unwrap_or (pieces (suc n)) []) (joined-below n place octets pieces (omega arith)))

pub joined-with_piece : (n place : ℕ) (octets : List ℕ) (pieces : Pieces) → length (joined n (with_piece place octets pieces)) ≤ length octets + length (joined n pieces)
joined-with_piece zero place octets pieces = omega arith
joined-with_piece (suc n) place octets pieces = elim (cases_eq (suc n) place) [
  | inl here ↦
      rw (eq-eqb (suc n) place here, joined-below n place octets pieces (omega arith), length-append (joined n pieces) octets)
      (omega (arith, length-append (joined n pieces) (unwrap_or (pieces (suc n)) [])))
  | inr other ↦
      rw (ne_eqb (suc n) place other)
      (omega (arith, joined-with_piece n place octets pieces, length-append (joined n pieces) (unwrap_or (pieces (suc n)) []), length-append (joined n (with_piece place octets pieces)) (unwrap_or (pieces (suc n)) [])))
]

joined-none : (n : ℕ) → joined n no_pieces ≡ []
joined-none zero = refl
joined-none (suc n) = rw (joined-none n) refl

-- each piece has at most the octets that a message has room for at its place
abbrev pub AreSmall : Pieces → Type 0
AreSmall pieces = (place : ℕ) → IfSome (pieces place) (λ octets. length octets ≤ octets_at_most place)

small : (place : ℕ) (o : Option (List ℕ)) → IfSome o (λ octets. length octets ≤ octets_at_most place) → length (unwrap_or o []) ≤ octets_at_most place
small place (Some octets) h = h
small place None h = omega arith

fits-small : (of : Concatenation) (place : ℕ) (o : Option (List ℕ)) → IfSome o (FitsAt of place) → IfSome o (λ octets. length octets ≤ octets_at_most place)
fits-small of place (Some octets) fits = fits.2
fits-small of place None fits = tt

with-small : (of : Concatenation) (at : ℕ) (octets : List ℕ) (place : ℕ) (here : Bool) (o : Option (List ℕ)) → (here ≡ true → place ≡ at) → FitsAt of at octets → IfSome o (FitsAt of place)
    → IfSome (cond here (Some octets) o) (λ octets. length octets ≤ octets_at_most place)
with-small of at octets place true o is fits fit = subst (λ p. length octets ≤ octets_at_most p) (sym (is refl)) fits.2
with-small of at octets place false o is fits fit = fits-small of place o fit

-- the pieces of a packet with the one that arrives are so
pub arrival-small : (of : Concatenation) (at : ℕ) (octets : List ℕ) (pieces : Pile) → FitsAt of at octets → AllFit pieces → AreSmall (with_piece at octets (kept_in pieces of))
arrival-small of at octets pieces fits fit place =
    with-small of at octets place (eqb place at) (kept_in pieces of place) (λ e. eqb-true place at e) fits (fit of place)

pub at_most-134 : (place : ℕ) → octets_at_most place ≤ 134
at_most-134 place = elim (cases_Bool (eqb place 1)) [
  | inl first ↦ rw first (omega arith)
  | inr later ↦ rw later (omega arith)
]

-- n pieces, one at least, have at most 132 octets and 134 for each behind the first
pub joined-small : (n : ℕ) (pieces : Pieces) → AreSmall pieces → length (joined (suc n) pieces) ≤ 132 + 134 * n
joined-small zero pieces are = small 1 (pieces 1) (are 1)
joined-small (suc n) pieces are =
    let last = small (suc (suc n)) (pieces (suc (suc n))) (are (suc (suc n))) in
    let front = joined-small n pieces are in
    let times : 134 * suc n ≡ 134 * n + 134 = omega arith in
    omega (arith, times, front, last, at_most-134 (suc (suc n)), length-append (joined (suc n) pieces) (unwrap_or (pieces (suc (suc n))) []))

-- any number of pieces up to 255 have at most as many octets as the longest packet
pub joined-longest : (n : ℕ) (pieces : Pieces) → n ≤ 255 → AreSmall pieces → length (joined n pieces) ≤ 34168
joined-longest zero pieces few are = omega arith
joined-longest (suc n) pieces few are = omega (arith, joined-small n pieces are)

joined-more : (before : ℕ) (k n : ℕ) (pieces : Pieces) → n ≡ before + k → length (joined before pieces) ≤ length (joined n pieces)
joined-more before zero n pieces is = omega (arith, ap (λ m. length (joined m pieces)) is, ap (λ m. length (joined m pieces)) (add-zero before))
joined-more before (suc k) zero pieces is = absurd (omega arith)
joined-more before (suc k) (suc n) pieces is =
    omega (arith, length-append (joined n pieces) (unwrap_or (pieces (suc n)) []), joined-more before k n pieces (omega arith))

-- what is joined by then and one more piece are no longer than the whole
pub joined-within : (before n : ℕ) (pieces : Pieces) (octets : List ℕ) → before < n → pieces (before + 1) ≡ Some octets → length (joined before pieces) + length octets ≤ length (joined n pieces)
joined-within before n pieces octets below is =
    let next : length (joined (suc before) pieces) ≡ length (joined before pieces) + length octets =
    rw (sym (ap pieces (add-one before)) ∙ is) (length-append (joined before pieces) octets) in
    omega (arith, next, joined-more (suc before) (n - suc before) n pieces (omega arith))
