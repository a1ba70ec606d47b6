-- The keysets of a plan that are put later.
use Rattle.std.proofs.Common.{◌≡◌, refl, sym, ap, ◌∙◌, ℕ, ◌==◌, ◌&&◌, ◌||◌, not, Bool, true, false, IsTrue, List, [], ◌∷◌, ◌++◌, map, Option, None, Some, unwrap_or, inl, inr, arith}
use Rattle.std.specs.List.{list_any}
use Rattle.std.proofs.lemmas.Bool.{cases_Bool, eqb-true}
use Rattle.toml.specs.Data.{Members}
use Rattle.ota_core.specs.Keyset.{Keyset, is_same_keyset}
use Rattle.ota_core.specs.KeysetList.{has_kvn}
use Rattle.ota_core.specs.declared.cards.CardFacts.{CardFacts}
use Rattle.plan_reader.specs.Check.{first_wrong}
use Rattle.plan_reader.specs.Plan.{is_keyset_of}
use Rattle.plan_reader.specs.PlanTable.{has_number, lists_keyset, has_kid, card_of_keyset, kvn_of, kid_of, base_of, put_of, keyset_said, keyset_checks, first_of_entries, issued_of, later_of, with_issued, plan_of_lists}
use Rattle.plan_reader.specs.KeysetPlaces.{have_own_ids}
use Rattle.plan_reader.specs.LaterKeysets.{IsLater, AreLater, IsOfCards, AreOfCards}
use Rattle.plan_reader.specs.declared.keyset_table.Listing.{Listing}
use Rattle.plan_reader.specs.declared.tables.Field.{Field}
use Rattle.plan_reader.specs.declared.tables.Table.TheVariants as which
use Rattle.plan_reader.proofs.CheckLemmas.{all-right, right-value}
use Rattle.plan_reader.proofs.PlaceLemmas.{both_hold, neither_holds, not-true, is_same_keyset-comm}

-- what an entry says of its card, and whether it is put later
said-card : (entry : Members) (card : ℕ) → card_of_keyset entry ≡ Some card → (keyset_said entry).id.card.0 ≡ card
unfolding keyset_said
said-card entry card is = rw is refl

said-later : (entry : Members) (put : Bool) → put_of entry ≡ Some put → (keyset_said entry).later ≡ put
unfolding keyset_said
said-later entry put is = rw is refl

said-base : (entry : Members) → (keyset_said entry).facts.base ≡ unwrap_or (base_of entry) 0
unfolding keyset_said
said-base entry = refl

-- a keyset that is put later, and isn't refused for its base, begins at 0
at-zero : (put : Bool) (base : ℕ) → (put && not (base == 0)) ≡ false → put ≡ true → base ≡ 0
at-zero true base right is = eqb-true base 0 (zero (base == 0) right)
  where
    zero : (test : Bool) → not test ≡ false → test ≡ true
    zero true right = refl
    zero false right = cc right
at-zero false base right is = cc is

-- an entry in which nothing is wrong
entry-right : (cards : List CardFacts) (before : List Listing) (entry : Members) → first_wrong (keyset_checks cards before entry) ≡ None → IsOfCards cards (keyset_said entry)
entry-right cards before entry right =
    let all = all-right (keyset_checks cards before entry) right in
    let (card, card_is, there) = right-value (λ card. not (has_number card cards)) (card_of_keyset entry) all.1.0 in
    let (put, put_is, zero) = right-value (λ put. put && not (unwrap_or (base_of entry) 0 == 0)) (put_of entry) all.1.1.1.1.1.1.1.1.0 in
    record {
      there = rw (said-card entry card card_is) (not-false (has_number card cards) there);
      base = λ later. said-base entry ∙ at-zero put (unwrap_or (base_of entry) 0) zero (sym (said-later entry put put_is) ∙ later);
    }
  where
    not-false : (test : Bool) → not test ≡ false → IsTrue test
    not-false true is = refl
    not-false false is = cc is

-- the first of several entries in which nothing is wrong
first-right : (cards : List CardFacts) (before : List Listing) (entry : Members) (entries : List Members)
    → first_of_entries which.Keyset keyset_said (keyset_checks cards) before (entry ∷ entries) ≡ None
    → IsOfCards cards (keyset_said entry) × (first_of_entries which.Keyset keyset_said (keyset_checks cards) (before ++ keyset_said entry ∷ []) entries ≡ None)
first-right cards before entry entries right = by (first_wrong (keyset_checks cards before entry)) refl
  where
    by : (wrong : Option Field) → first_wrong (keyset_checks cards before entry) ≡ wrong
        → IsOfCards cards (keyset_said entry) × (first_of_entries which.Keyset keyset_said (keyset_checks cards) (before ++ keyset_said entry ∷ []) entries ≡ None)
    by None is = (entry-right cards before entry is, rw is at right)
    by (Some wrong) is = let fault = rw is at right in cc fault

-- entries in which nothing is wrong
pub entries-right : (cards : List CardFacts) (before : List Listing) (entries : List Members)
    → first_of_entries which.Keyset keyset_said (keyset_checks cards) before entries ≡ None → AreOfCards cards (map keyset_said entries)
entries-right cards before [] right = tt
entries-right cards before (entry ∷ entries) right =
    let (here, more) = first-right cards before entry entries right in
    (here, entries-right cards (before ++ keyset_said entry ∷ []) entries more)

-- one of the keysets is this one, and isn't put later
abbrev issues : Keyset → List Listing → Bool
issues id listings = list_any (λ listing. is_same_keyset listing.id id && not listing.later) listings

-- a keyset that isn't listed isn't issued
unlisted : (id : Keyset) (listings : List Listing) → lists_keyset id listings ≡ false → issues id listings ≡ false
unlisted id [] none = refl
unlisted id (listing ∷ listings) none =
    let (apart, rest) = neither_holds (is_same_keyset listing.id id) (lists_keyset id listings) none in
    rw apart (unlisted id listings rest)

-- a card has no number of a keyset that isn't issued
no-kvn : (id : Keyset) (listings : List Listing) → issues id listings ≡ false → has_kvn id.kvn (issued_of id.card.0 listings) ≡ false
no-kvn id [] none = refl
no-kvn id (listing ∷ listings) none =
    let (apart, rest) = neither_holds (is_same_keyset listing.id id && not listing.later) (issues id listings) none in
    elim (cases_Bool ((listing.id.card.0 == id.card.0) && not listing.later)) [
      | inl issued ↦
          let (own, now) = both_hold (listing.id.card.0 == id.card.0) (not listing.later) issued in
          let other : (listing.id.kvn == id.kvn) ≡ false = apart-kvn (listing.id.kvn == id.kvn) (rw (own, now) at apart) in
          rw (issued, other) (no-kvn id listings rest)
      | inr other ↦ rw other (no-kvn id listings rest)
    ]
  where
    apart-kvn : (test : Bool) → (test && true) ≡ false → test ≡ false
    apart-kvn true is = cc is
    apart-kvn false is = refl

-- no card is issued with a keyset that isn't
not-issued : (id : Keyset) (listings : List Listing) (cards : List CardFacts) → issues id listings ≡ false → list_any (is_keyset_of id) (map (with_issued listings) cards) ≡ false
not-issued id listings [] none = refl
not-issued id listings (card ∷ cards) none =
    elim (cases_Bool (card.card.0 == id.card.0)) [
      | inl own ↦ rw (own, eqb-true card.card.0 id.card.0 own, no-kvn id listings none) (not-issued id listings cards none)
      | inr other ↦ rw other (not-issued id listings cards none)
    ]

-- the keysets of a list that are put later aren't issued by another
abbrev Unissued : List Listing → List Listing → Type 0
Unissued listings [] = Unit {0}
Unissued listings (listing ∷ rest) = (listing.later ≡ true → issues listing.id listings ≡ false) × Unissued listings rest

unissued-more : (listing : Listing) (listings rest : List Listing) → lists_keyset listing.id rest ≡ false → Unissued listings rest → Unissued (listing ∷ listings) rest
unissued-more listing listings [] none now = tt
unissued-more listing listings (other ∷ rest) none now =
    let (apart, more) = neither_holds (is_same_keyset other.id listing.id) (lists_keyset listing.id rest) none in (
      λ later. rw (is_same_keyset-comm listing.id other.id, apart) (now.0 later),
      unissued-more listing listings rest more now.1,
    )

unissued-all : (listings : List Listing) → IsTrue (have_own_ids listings) → Unissued listings listings
unissued-all [] own = tt
unissued-all (listing ∷ listings) own =
    let (here, more) = both_hold (not (lists_keyset listing.id listings)) (have_own_ids listings) own in
    let none = not-true (lists_keyset listing.id listings) here in (
      λ later. rw (later, and-false (is_same_keyset listing.id listing.id)) (unlisted listing.id listings none),
      unissued-more listing listings listings none (unissued-all listings more),
    )
  where
    and-false : (test : Bool) → (test && false) ≡ false
    and-false true = refl
    and-false false = refl

-- cards keep their numbers
pub has_number-issued : (number : ℕ) (listings : List Listing) (cards : List CardFacts) → has_number number (map (with_issued listings) cards) ≡ has_number number cards
has_number-issued number listings [] = refl
has_number-issued number listings (card ∷ cards) = rw (has_number-issued number listings cards) refl

laters : (campaign : ℕ) (cards : List CardFacts) (listings rest : List Listing) → AreOfCards cards rest → Unissued listings rest
    → AreLater (plan_of_lists campaign cards listings) (later_of rest)
laters campaign cards listings [] right unissued = tt
laters campaign cards listings (listing ∷ rest) right unissued =
    elim (cases_Bool listing.later) [
      | inl later ↦
          rw later (
            record {
              base = right.0.base later;
              there = rw (has_number-issued listing.id.card.0 listings cards) right.0.there;
              unissued = not-issued listing.id listings cards (unissued.0 later);
            },
            laters campaign cards listings rest right.1 unissued.1,
          )
      | inr now ↦ rw now (laters campaign cards listings rest right.1 unissued.1)
    ]

pub are-later : (campaign : ℕ) (cards : List CardFacts) (listings : List Listing) → AreOfCards cards listings → IsTrue (have_own_ids listings)
    → AreLater (plan_of_lists campaign cards listings) (later_of listings)
are-later campaign cards listings right own = laters campaign cards listings listings right (unissued-all listings own)
