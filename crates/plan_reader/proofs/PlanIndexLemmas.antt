-- What an index of a plan's cards finds.
use Rattle.std.proofs.Common.{◌≡◌, ◌∙◌, refl, sym, cond, ℕ, zero, suc, ◌+◌, ◌<◌, ◌≤◌, ◌==◌, ◌&&◌, ◌||◌, nat_eq, Bool, true, false, List, [], ◌∷◌, ◌++◌, length, get_or, find, Option, Some, None, option_map, arith, inl, inr}
use Rattle.std.specs.Option.{option_or}
use Rattle.std.specs.List.{list_any}
use Rattle.std.specs.HashMap.{HashMap, get}
use Rattle.std.proofs.lemmas.Bool.{cases_Bool, eqb-true}
use Rattle.std.proofs.lemmas.Option.{same_Some}
use Rattle.std.proofs.lemmas.List.Folds.{list_any-append}
use Rattle.ota_core.specs.Keyset.{Keyset, is_same_keyset}
use Rattle.ota_core.specs.KeysetList.{has_kvn, IsKeysetList}
use Rattle.ota_core.specs.declared.cards.CardFacts.{CardFacts}
use Rattle.ota_core.specs.declared.keysets.KeysetFacts.{KeysetFacts}
use Rattle.plan_reader.specs.PlanPlaces.{IsIndexOf}
use Rattle.plan_reader.specs.declared.plan_index.CardListing.{CardListing}
use Rattle.plan_reader.specs.declared.plans.Plan.{Plan}

-- the key version numbers of a card's keysets are in their range
pub kvn-range : (keysets : List (ℕ × KeysetFacts)) (i : ℕ) (d : ℕ × KeysetFacts) → IsKeysetList keysets → i < length keysets
    → (1 ≤ (get_or keysets i d).0) × ((get_or keysets i d).0 ≤ 15)
kvn-range [] i d is within = absurd (omega arith)
kvn-range (keyset ∷ keysets) zero d is within = (is.0, is.1)
kvn-range (keyset ∷ keysets) (suc i) d is within = kvn-range keysets i d is.3 (omega arith)

-- the width of the first card with a number
abbrev pub width_in : List CardFacts → ℕ → Option Bool
width_in cards number = option_map (λ card. card.wide) (find (λ card. card.card.0 == number) cards)

-- a card with this number is issued with a keyset of this one
abbrev pub is_issued : List CardFacts → ℕ → ℕ → Bool
is_issued cards number kvn = list_any (λ card. (card.card.0 == number) && has_kvn kvn card.keysets) cards

-- a keyset that is put later has these numbers
abbrev pub is_put : List (Keyset × KeysetFacts) → ℕ → ℕ → Bool
is_put later number kvn = list_any (λ put. is_same_keyset put.0 (record { card = record { 0 = number }; kvn = kvn })) later

-- the width of the first card in a longer list
width_in-push : (cards : List CardFacts) (card : CardFacts) (number : ℕ)
    → width_in (cards ++ card ∷ []) number ≡ option_or (width_in cards number) (cond (card.card.0 == number) (Some card.wide) None)
width_in-push [] card number = elim (cases_Bool (card.card.0 == number)) [ inl same ↦ rw same refl | inr other ↦ rw other refl ]
width_in-push (first ∷ cards) card number =
    elim (cases_Bool (first.card.0 == number)) [
      | inl same ↦ rw same refl
      | inr other ↦ rw other (width_in-push cards card number)
    ]

-- no keyset is issued on a card that isn't there
none-issued : (cards : List CardFacts) (number kvn : ℕ) → width_in cards number ≡ None → is_issued cards number kvn ≡ false
none-issued [] number kvn none = refl
none-issued (card ∷ cards) number kvn none =
    elim (cases_Bool (card.card.0 == number)) [
      | inl same ↦ let found = rw same at none in cc found
      | inr other ↦ rw other (none-issued cards number kvn (rw other at none))
    ]

-- tests behind which nothing more comes
or-false : (test : Bool) → (test || false) ≡ test
or-false true = refl
or-false false = refl

none-more : (test : Bool) → test ≡ ((test || false) || false)
none-more true = refl
none-more false = refl

one-more : (test more : Bool) → (test || more) ≡ ((test || (more || false)) || false)
one-more true more = refl
one-more false true = refl
one-more false false = refl

or-none : {A : Type 0} (o : Option A) → o ≡ option_or o None
or-none None = refl
or-none (Some x) = refl

-- what is known of a card in front of its entry: what the map has, or a card without keysets
pub record IsBefore (found : Option CardListing) (wide : Bool) (before : CardListing) : Type 0 where
  pub there : (listing : CardListing) → found ≡ Some listing → before ≡ listing
  pub bare : found ≡ None → (before.wide ≡ wide) × ((kvn : ℕ) → get_or before.kvns kvn false ≡ false)

pub is-there : {found : Option CardListing} {wide : Bool} {before : CardListing} → found ≡ Some before → IsBefore found wide before
is-there found-is = record {
  there = λ listing there. same_Some _ _ (sym found-is ∙ there);
  bare = λ missing. let none = sym found-is ∙ missing in cc none;
}

pub is-bare : {found : Option CardListing} {wide : Bool} {before : CardListing} → found ≡ None → before.wide ≡ wide
    → ((kvn : ℕ) → get_or before.kvns kvn false ≡ false) → IsBefore found wide before
is-bare missing width kvns = record {
  there = λ listing there. let none = sym missing ∙ there in cc none;
  bare = λ _. (width, kvns);
}

-- the map with one more card
pub index-card : {S : Type 0} (plan : Plan) (done : List CardFacts) (card : CardFacts) (old new : HashMap ℕ CardListing S) (before more : CardListing)
    → IsIndexOf (record plan { cards = done; later = [] }) old → IsBefore (get nat_eq old card.card.0) card.wide before
    → more.wide ≡ before.wide → ((kvn : ℕ) → get_or more.kvns kvn false ≡ (get_or before.kvns kvn false || has_kvn kvn card.keysets))
    → ((number : ℕ) → get nat_eq new number ≡ cond (nat_eq card.card.0 number) (Some more) (get nat_eq old number))
    → IsIndexOf (record plan { cards = done ++ card ∷ []; later = [] }) new
index-card plan done card old new before more is known width kvns updates = record {
  wide = λ number.
      rw (updates number, width_in-push done card number)
      (elim (cases_Bool (card.card.0 == number)) [
        | inl same ↦
            let here = eqb-true card.card.0 number same in
            rw (same, width) (wide_here (get nat_eq old number) (width_in done number) (rw here at known) (is.wide number))
        | inr other ↦ rw (other, is.wide number) (or-none (width_in done number))
      ]);
  listed = λ number listing found kvn.
      rw (list_any-append (λ other. (other.card.0 == number) && has_kvn kvn other.keysets) done (card ∷ []))
      (elim (cases_Bool (card.card.0 == number)) [
        | inl same ↦
            let here = eqb-true card.card.0 number same in
            let own : listing ≡ more = sym (same_Some _ _ (rw (updates number, same) at found)) in
            rw (same, own, kvns kvn) (kvns_here number kvn (get nat_eq old number) refl (rw here at known))
        | inr other ↦
            rw other (is.listed number listing (rw (updates number, other) at found) kvn ∙ rw (or-false (is_issued done number kvn), or-false (is_issued done number kvn)) refl)
      ]);
}
  where
    wide_here : (found : Option CardListing) (width : Option Bool) → IsBefore found card.wide before → option_map (λ listing. listing.wide) found ≡ width
        → Some before.wide ≡ option_or width (Some card.wide)
    wide_here None width is same = rw (← same, (is.bare refl).0) refl
    wide_here (Some listing) width is same = rw (← same, is.there listing refl) refl

    kvns_here : (number kvn : ℕ) (found : Option CardListing) → get nat_eq old number ≡ found → IsBefore found card.wide before
        → (get_or before.kvns kvn false || has_kvn kvn card.keysets) ≡ ((is_issued done number kvn || (has_kvn kvn card.keysets || false)) || false)
    kvns_here number kvn None at known =
        rw ((known.bare refl).1 kvn, none-issued done number kvn (sym (is.wide number) ∙ rw at refl)) (one-more false (has_kvn kvn card.keysets))
    kvns_here number kvn (Some listing) at known =
        rw (known.there listing refl, is.listed number listing at kvn, or-false (is_issued done number kvn)) (one-more (is_issued done number kvn) (has_kvn kvn card.keysets))

-- the map with one more keyset that is put later
pub index-later : {S : Type 0} (plan : Plan) (done : List (Keyset × KeysetFacts)) (put : Keyset × KeysetFacts) (old new : HashMap ℕ CardListing S) (listing more : CardListing)
    → IsIndexOf (record plan { later = done }) old → get nat_eq old put.0.card.0 ≡ Some listing
    → more.wide ≡ listing.wide → ((kvn : ℕ) → get_or more.kvns kvn false ≡ ((put.0.kvn == kvn) || get_or listing.kvns kvn false))
    → ((number : ℕ) → get nat_eq new number ≡ cond (nat_eq put.0.card.0 number) (Some more) (get nat_eq old number))
    → IsIndexOf (record plan { later = done ++ put ∷ [] }) new
index-later plan done put old new listing more is found width kvns updates = record {
  wide = λ number.
      rw (updates number)
      (elim (cases_Bool (put.0.card.0 == number)) [
        | inl same ↦ let here = eqb-true put.0.card.0 number same in rw (same, ← is.wide number, ← here, found, width) refl
        | inr other ↦ rw other (is.wide number)
      ]);
  listed = λ number other there kvn.
      rw (list_any-append (λ later. is_same_keyset later.0 (record { card = record { 0 = number }; kvn = kvn })) done (put ∷ []))
      (elim (cases_Bool (put.0.card.0 == number)) [
        | inl same ↦
            let here = eqb-true put.0.card.0 number same in
            let own : other ≡ more = sym (same_Some _ _ (rw (updates number, same) at there)) in
            rw (same, own, kvns kvn, is.listed number listing (rw here at found) kvn) (put-last (put.0.kvn == kvn) (is_issued plan.cards number kvn) (is_put done number kvn))
        | inr apart ↦
            rw apart (is.listed number other (rw (updates number, apart) at there) kvn ∙ rw (or-false (is_put done number kvn)) refl)
      ]);
}
  where
    put-last : (put issued later : Bool) → (put || (issued || later)) ≡ (issued || (later || (put || false)))
    put-last true true later = refl
    put-last true false true = refl
    put-last true false false = refl
    put-last false true later = refl
    put-last false false later = sym (or-false later)

-- a keyset of a card that isn't there changes nothing
pub index-same : {S : Type 0} (plan : Plan) (done : List (Keyset × KeysetFacts)) (put : Keyset × KeysetFacts) (old : HashMap ℕ CardListing S)
    → IsIndexOf (record plan { later = done }) old → get nat_eq old put.0.card.0 ≡ None → IsIndexOf (record plan { later = done ++ put ∷ [] }) old
index-same plan done put old is missing = record {
  wide = is.wide;
  listed = λ number listing there kvn.
      rw (list_any-append (λ later. is_same_keyset later.0 (record { card = record { 0 = number }; kvn = kvn })) done (put ∷ []))
      (elim (cases_Bool (put.0.card.0 == number)) [
        | inl same ↦ let none = sym there ∙ rw (eqb-true put.0.card.0 number same) at missing in cc none
        | inr apart ↦ rw apart (is.listed number listing there kvn ∙ rw (or-false (is_put done number kvn)) refl)
      ]);
}
