-- How the keysets of a plan come to their cards.
use Rattle.std.proofs.Common.{◌≡◌, refl, ap, ℕ, zero, suc, ◌+◌, ◌<◌, ◌==◌, ◌&&◌, not, true, false, IsTrue, List, [], ◌∷◌, ◌++◌, length, map, get_or, take, arith, inl, inr}
use Rattle.std.specs.List.{list_any}
use Rattle.std.proofs.lemmas.Bool.{cases_Bool, eqb-true}
use Rattle.std.proofs.lemmas.Bool.Decides.{nat_tests}
use Rattle.std.proofs.lemmas.List.{append-nil}
use Rattle.std.proofs.lemmas.List.Elements.{filter_map-append}
use Rattle.toml.specs.Data.{Members}
use Rattle.ota_core.specs.Keyset.{Keyset, is_same_keyset}
use Rattle.ota_core.specs.KeysetList.{has_kvn}
use Rattle.ota_core.specs.declared.cards.CardFacts.{CardFacts}
use Rattle.plan_reader.specs.Plan.{is_keyset_of}
use Rattle.plan_reader.specs.PlanTable.{card_said, lists_keyset, issued_of, later_of, with_issued}
use Rattle.plan_reader.specs.CardPlaces.{with_more}
use Rattle.plan_reader.specs.KeysetPlaces.{have_own_ids}
use Rattle.plan_reader.specs.declared.keyset_table.Listing.{Listing}
use Rattle.plan_reader.proofs.PlaceLemmas.{both_hold, neither_holds, not-true, none-passes, is_same_keyset-comm}

-- cards as their tables say them have no keysets
pub bare-cards : (entries : List Members) → map (with_issued []) (map card_said entries) ≡ map card_said entries
unfolding card_said
bare-cards [] = refl
bare-cards (entry ∷ entries) = ap (λ cards. card_said entry ∷ cards) (bare-cards entries)

-- a keyset of a list isn't among those in front of it
pub not-before : (listings : List Listing) (i : ℕ) (d : Listing) → IsTrue (have_own_ids listings) → i < length listings → lists_keyset (get_or listings i d).id (take i listings) ≡ false
not-before [] i d own within = absurd (omega arith)
not-before (listing ∷ listings) zero d own within = refl
not-before (listing ∷ listings) (suc i) d own within =
    let (here, more) = both_hold (not (lists_keyset listing.id listings)) (have_own_ids listings) own in
    let other = none-passes (λ other. is_same_keyset other.id listing.id) listings i d (not-true _ here) (omega arith) in
    rw (is_same_keyset-comm listing.id (get_or listings i d).id, other) (not-before listings i d more (omega arith))

-- a card has no number of a keyset that isn't listed
no-kvn : (id : Keyset) (listings : List Listing) → lists_keyset id listings ≡ false → has_kvn id.kvn (issued_of id.card.0 listings) ≡ false
no-kvn id [] none = refl
no-kvn id (listing ∷ listings) none =
    let (apart, rest) = neither_holds (is_same_keyset listing.id id) (lists_keyset id listings) none in
    elim (cases_Bool ((listing.id.card.0 == id.card.0) && not listing.later)) [
      | inl issued ↦
          let (own, now) = both_hold (listing.id.card.0 == id.card.0) (not listing.later) issued in
          rw (issued, rw own at apart) (no-kvn id listings rest)
      | inr other ↦ rw other (no-kvn id listings rest)
    ]

-- no card is issued with a keyset that isn't listed
pub not-issued : (id : Keyset) (listings : List Listing) (cards : List CardFacts) → lists_keyset id listings ≡ false → list_any (is_keyset_of id) (map (with_issued listings) cards) ≡ false
not-issued id listings [] none = refl
not-issued id listings (card ∷ cards) none =
    elim (cases_Bool (card.card.0 == id.card.0)) [
      | inl own ↦ rw (own, eqb-true card.card.0 id.card.0 own, no-kvn id listings none) (not-issued id listings cards none)
      | inr other ↦ rw other (not-issued id listings cards none)
    ]

-- one more keyset with which its card is issued
more-issued : (listings : List Listing) (listing : Listing) (card : CardFacts) → listing.later ≡ false
    → with_more listing.id listing.facts (with_issued listings card) ≡ with_issued (listings ++ listing ∷ []) card
more-issued listings listing card now =
    let swap : (listing.id.card.0 == card.card.0) ≡ (card.card.0 == listing.id.card.0) = grind (arith, nat_tests) in
    elim (cases_Bool (card.card.0 == listing.id.card.0)) [
      | inl own ↦ rw (filter_map-append _ listings (listing ∷ []), swap, own, now) refl
      | inr other ↦ rw (filter_map-append _ listings (listing ∷ []), swap, other, append-nil _) refl
    ]

pub all-more-issued : (listings : List Listing) (listing : Listing) (cards : List CardFacts) → listing.later ≡ false
    → map (with_more listing.id listing.facts) (map (with_issued listings) cards) ≡ map (with_issued (listings ++ listing ∷ [])) cards
all-more-issued listings listing [] now = refl
all-more-issued listings listing (card ∷ cards) now = rw (more-issued listings listing card now, all-more-issued listings listing cards now) refl

pub no-more-later : (listings : List Listing) (listing : Listing) → listing.later ≡ false → later_of listings ≡ later_of (listings ++ listing ∷ [])
no-more-later listings listing now = rw (filter_map-append _ listings (listing ∷ []), now, append-nil _) refl

-- one more keyset that is put later
pub all-same-issued : (listings : List Listing) (listing : Listing) (cards : List CardFacts) → listing.later ≡ true
    → map (with_issued listings) cards ≡ map (with_issued (listings ++ listing ∷ [])) cards
all-same-issued listings listing [] later = refl
all-same-issued listings listing (card ∷ cards) later =
    rw (← all-same-issued listings listing cards later, filter_map-append _ listings (listing ∷ []), later)
    (elim (cases_Bool (listing.id.card.0 == card.card.0)) [ inl own ↦ rw (own, append-nil _) refl | inr other ↦ rw (other, append-nil _) refl ])

pub more-later : (listings : List Listing) (listing : Listing) → listing.later ≡ true → later_of listings ++ (listing.id, listing.facts) ∷ [] ≡ later_of (listings ++ listing ∷ [])
more-later listings listing later = rw (filter_map-append _ listings (listing ∷ []), later) refl
