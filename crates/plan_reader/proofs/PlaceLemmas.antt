-- The tables of cards and keysets say of their lists what they hold.
use Rattle.std.proofs.Common.{◌≡◌, ◌∙◌, refl, sym, ap, cond, ℕ, nat_eq, zero, suc, ◌+◌, ◌<◌, ◌≤◌, ◌==◌, ◌&&◌, ◌||◌, not, Bool, true, false, IsTrue, List, [], ◌∷◌, ◌++◌, length, map, get_or, set, Option, Some, None, is_some, arith, add-zero, zero-add, add_assoc, bytes_eq, Vec, Global, inl, inr}
use Rattle.std.specs.HashMap.{HashMap, get, Updates}
use Rattle.std.specs.HashSet as bag
use Rattle.std.specs.HashSet.{HashSet}
use Rattle.std.specs.List.{list_any, position_from}
use Rattle.std.proofs.lemmas.Bool.{cases_Bool, false≢true, eqb-true}
use Rattle.std.proofs.lemmas.Slice.Eq.{bytes_eq-Decides}
use Rattle.std.proofs.lemmas.Option.{same_Some}
use Rattle.std.proofs.lemmas.Bool.Decides.{nat_tests}
use Rattle.std.proofs.lemmas.List.Folds.{list_any-append, list_any_at}
use Rattle.std.proofs.lemmas.List.Sorted.{list_any-IsPermutation}
use Rattle.ota_core.specs.Keyset.{Keyset, is_same_keyset}
use Rattle.ota_core.specs.KeysetList.{has_kvn}
use Rattle.ota_core.specs.declared.cards.CardFacts.{CardFacts}
use Rattle.ota_core.specs.declared.keysets.KeysetFacts.{KeysetFacts}
use Rattle.plan_reader.specs.Plan.{is_keyset_of}
use Rattle.plan_reader.specs.PlanTable.{has_number, lists_keyset, has_kid}
use Rattle.plan_reader.specs.CardPlaces.{place_of, have_own_numbers, IsPlaced, with_more}
use Rattle.plan_reader.specs.KeysetPlaces.{same_pair, have_own_ids, IsListed}
use Rattle.plan_reader.specs.declared.keyset_table.Listing.{Listing}

pub both_hold : (first second : Bool) → IsTrue (first && second) → IsTrue first × IsTrue second
both_hold true second holds = (refl, holds)
both_hold false second holds = cc holds

pub neither_holds : (first second : Bool) → (first || second) ≡ false → (first ≡ false) × (second ≡ false)
neither_holds true second holds = cc holds
neither_holds false second holds = (refl, holds)

pub not-true : (test : Bool) → IsTrue (not test) → test ≡ false
not-true true holds = cc holds
not-true false holds = refl

twice : (test rest : Bool) → (test || rest) ≡ (test || (test || rest))
twice true rest = refl
twice false rest = refl

swapped : (first second rest : Bool) → (first || (second || rest)) ≡ (second || (first || rest))
swapped true true rest = refl
swapped true false rest = refl
swapped false second rest = refl

pub is_same_keyset-comm : (first second : Keyset) → is_same_keyset first second ≡ is_same_keyset second first
is_same_keyset-comm first second = grind (arith, nat_tests)

-- there is a first place exactly where an element passes
pub position-any : {A : Type 0} (p : A → Bool) (i : ℕ) (xs : List A) → is_some (position_from p i xs) ≡ list_any p xs
position-any p i [] = refl
position-any p i (x ∷ xs) =
    elim (cases_Bool (p x)) [
      | inl passes ↦ rw passes refl
      | inr fails ↦ rw fails (position-any p (i + 1) xs)
    ]

-- the first place in a list with one more element
pub position-push : {A : Type 0} (p : A → Bool) (i : ℕ) (xs : List A) (x : A)
    → position_from p i (xs ++ x ∷ []) ≡ cond (list_any p xs) (position_from p i xs) (cond (p x) (Some (i + length xs)) None)
position-push p i [] x = rw (add-zero i) refl
position-push p i (y ∷ xs) x =
    elim (cases_Bool (p y)) [
      | inl passes ↦ rw passes refl
      | inr fails ↦ rw (fails, position-push p (i + 1) xs x, add_assoc i 1 (length xs)) (grind arith)
    ]

-- a first place isn't in front of the start
pub position-above : {A : Type 0} (p : A → Bool) (i n : ℕ) (xs : List A) → position_from p i xs ≡ Some n → i ≤ n
position-above p i n [] at = cc at
position-above p i n (x ∷ xs) at =
    elim (cases_Bool (p x)) [
      | inl passes ↦ let same : i ≡ n = same_Some _ _ (rw passes at at) in omega arith
      | inr fails ↦ let above = position-above p (i + 1) n xs (rw fails at at) in omega arith
    ]

-- the first place is one from the start on, and the element there passes
pub position-at : {A : Type 0} (p : A → Bool) (i n : ℕ) (d : A) (xs : List A) → position_from p i xs ≡ Some (i + n) → (n < length xs) × (p (get_or xs n d) ≡ true)
position-at p i n d [] at = cc at
position-at p i zero d (x ∷ xs) at =
    elim (cases_Bool (p x)) [
      | inl passes ↦ (omega arith, passes)
      | inr fails ↦ let above = position-above p (i + 1) i xs (rw (fails, add-zero i) at at) in absurd (omega arith)
    ]
position-at p i (suc n) d (x ∷ xs) at =
    elim (cases_Bool (p x)) [
      | inl passes ↦ absurd (omega (arith, same_Some _ _ (rw passes at at)))
      | inr fails ↦ let (below, passes) = position-at p (i + 1) n d xs (rw fails at at ∙ ap Some (omega arith)) in (omega arith, passes)
    ]

-- where no element passes, the one at a place doesn't
pub none-passes : {A : Type 0} (p : A → Bool) (xs : List A) (i : ℕ) (d : A) → list_any p xs ≡ false → i < length xs → p (get_or xs i d) ≡ false
none-passes p xs i d none within =
    elim (cases_Bool (p (get_or xs i d))) [
      | inl passes ↦ absurd (false≢true (sym none ∙ list_any_at p xs i d within passes))
      | inr fails ↦ fails
    ]

-- what is found of a number where one more place is known
found_by : (k number len : ℕ) (old new place : Option ℕ) (any : Bool) → new ≡ cond (nat_eq k number) (Some len) old → old ≡ place → is_some place ≡ any
    → (k ≡ number → any ≡ false) → new ≡ cond any place (cond (k == number) (Some len) None)
found_by k number len old new place any updated same there apart =
    elim (cases_Bool (k == number)) [
      | inl equal ↦ rw (updated, equal, apart (eqb-true k number equal)) refl
      | inr other ↦ rw (updated, other, same, ← there) (kept place)
    ]
  where
    kept : (place : Option ℕ) → place ≡ cond (is_some place) place None
    kept None = refl
    kept (Some n) = refl

-- numbers that are equal stand for one another in a test
same_number : (k number : ℕ) (cards : List CardFacts) → has_number k cards ≡ false → k ≡ number → has_number number cards ≡ false
same_number k number cards none same = rw (← same) none

-- no two cards have one number where a new one comes behind
own_push : (cards : List CardFacts) (card : CardFacts) → IsTrue (have_own_numbers cards) → has_number card.card.0 cards ≡ false → IsTrue (have_own_numbers (cards ++ card ∷ []))
own_push [] card own none = refl
own_push (first ∷ cards) card own none =
    let (here, more) = both_hold (not (has_number first.card.0 cards)) (have_own_numbers cards) own in
    let (apart, rest) = neither_holds (first.card.0 == card.card.0) (has_number card.card.0 cards) none in
    let other : (card.card.0 == first.card.0) ≡ false = grind (arith, nat_tests, apart) in
    rw (list_any-append (λ other. other.card.0 == first.card.0) cards (card ∷ []), not-true _ here, other, own_push cards card more rest) refl

-- a card's number is found anew in a longer list
pub placed-push : {S : Type 0} (places new : HashMap ℕ ℕ S) (cards : List CardFacts) (card : CardFacts) → IsPlaced places cards → has_number card.card.0 cards ≡ false
    → Updates nat_eq places new card.card.0 (Some (length cards)) → IsPlaced new (cards ++ card ∷ [])
placed-push places new cards card is none updates = record {
  found = λ number.
      let test : CardFacts → Bool = λ other. other.card.0 == number in
      found_by card.card.0 number (length cards) (get nat_eq places number) (get nat_eq new number) (place_of number cards) (has_number number cards)
      (updates.0 number) (is.found number) (position-any test 0 cards) (same_number card.card.0 number cards none)
      ∙ sym (position-push test 0 cards card ∙ rw (zero-add (length cards)) refl);
  distinct = own_push cards card is.distinct none;
}

-- a card keeps its number where it gets a keyset
pub number-more : (keyset : Keyset) (facts : KeysetFacts) (card : CardFacts) → (with_more keyset facts card).card.0 ≡ card.card.0
number-more keyset facts card =
    elim (cases_Bool (card.card.0 == keyset.card.0)) [
      | inl own ↦ rw own refl
      | inr other ↦ rw other refl
    ]

-- cards without the keyset's card stay as they are
pub more-none : (keyset : Keyset) (facts : KeysetFacts) (cards : List CardFacts) → has_number keyset.card.0 cards ≡ false → map (with_more keyset facts) cards ≡ cards
more-none keyset facts [] none = refl
more-none keyset facts (card ∷ cards) none =
    let (apart, rest) = neither_holds (card.card.0 == keyset.card.0) (has_number keyset.card.0 cards) none in
    rw (apart, more-none keyset facts cards rest) refl

-- the keyset's card is the one at its place, and no other
pub more-at : (keyset : Keyset) (facts : KeysetFacts) (i place : ℕ) (d : CardFacts) (cards : List CardFacts) → IsTrue (have_own_numbers cards)
    → position_from (λ card. card.card.0 == keyset.card.0) i cards ≡ Some (i + place)
    → set cards place (with_more keyset facts (get_or cards place d)) ≡ map (with_more keyset facts) cards
more-at keyset facts i place d [] own at = cc at
more-at keyset facts i zero d (card ∷ cards) own at =
    elim (cases_Bool (card.card.0 == keyset.card.0)) [
      | inl same ↦
          let (here, more) = both_hold (not (has_number card.card.0 cards)) (have_own_numbers cards) own in
          let none : has_number keyset.card.0 cards ≡ false = rw (← eqb-true card.card.0 keyset.card.0 same) (not-true _ here) in
          rw (more-none keyset facts cards none) refl
      | inr fails ↦
          let above = position-above (λ card. card.card.0 == keyset.card.0) (i + 1) i cards (rw (fails, add-zero i) at at) in absurd (omega arith)
    ]
more-at keyset facts i (suc place) d (card ∷ cards) own at =
    elim (cases_Bool (card.card.0 == keyset.card.0)) [
      | inl same ↦ absurd (omega (arith, same_Some _ _ (rw same at at)))
      | inr fails ↦
          let (here, more) = both_hold (not (has_number card.card.0 cards)) (have_own_numbers cards) own in
          rw (fails, more-at keyset facts (i + 1) place d cards more (rw fails at at ∙ ap Some (omega arith))) refl
    ]

-- places stay where cards keep their numbers
place-more : (keyset : Keyset) (facts : KeysetFacts) (number i : ℕ) (cards : List CardFacts)
    → position_from (λ card. card.card.0 == number) i (map (with_more keyset facts) cards) ≡ position_from (λ card. card.card.0 == number) i cards
place-more keyset facts number i [] = refl
place-more keyset facts number i (card ∷ cards) = rw (number-more keyset facts card, place-more keyset facts number (i + 1) cards) refl

has-more : (keyset : Keyset) (facts : KeysetFacts) (number : ℕ) (cards : List CardFacts) → has_number number (map (with_more keyset facts) cards) ≡ has_number number cards
has-more keyset facts number [] = refl
has-more keyset facts number (card ∷ cards) = rw (number-more keyset facts card, has-more keyset facts number cards) refl

own-more : (keyset : Keyset) (facts : KeysetFacts) (cards : List CardFacts) → have_own_numbers (map (with_more keyset facts) cards) ≡ have_own_numbers cards
own-more keyset facts [] = refl
own-more keyset facts (card ∷ cards) = rw (number-more keyset facts card, has-more keyset facts card.card.0 cards, own-more keyset facts cards) refl

pub placed-more : {S : Type 0} (places : HashMap ℕ ℕ S) (cards : List CardFacts) (keyset : Keyset) (facts : KeysetFacts) → IsPlaced places cards → IsPlaced places (map (with_more keyset facts) cards)
placed-more places cards keyset facts is = record {
  found = λ number. is.found number ∙ sym (place-more keyset facts number 0 cards);
  distinct = rw (own-more keyset facts cards) is.distinct;
}

-- the place of a card that is found, and the card there
pub found-at : {S : Type 0} (places : HashMap ℕ ℕ S) (cards : List CardFacts) (number place : ℕ) (d : CardFacts) → IsPlaced places cards → get nat_eq places number ≡ Some place
    → (place < length cards) × ((get_or cards place d).card.0 == number ≡ true)
found-at places cards number place d is found = position-at (λ card. card.card.0 == number) 0 place d cards (sym (is.found number) ∙ found ∙ ap Some (sym (zero-add place)))

pub found-within : {S : Type 0} (places : HashMap ℕ ℕ S) (cards : List CardFacts) (number place : ℕ) → IsPlaced places cards → get nat_eq places number ≡ Some place → place < length cards
found-within places [] number place is found = let none = sym (is.found number) ∙ found in cc none
found-within places (card ∷ cards) number place is found = (found-at places (card ∷ cards) number place card is found).0

-- a card that is found hasn't a keyset that no card has
pub kvn-new : {S : Type 0} (places : HashMap ℕ ℕ S) (cards : List CardFacts) (keyset : Keyset) (place : ℕ) (card : CardFacts) → IsPlaced places cards
    → get nat_eq places keyset.card.0 ≡ Some place → card ≡ get_or cards place card → list_any (is_keyset_of keyset) cards ≡ false → has_kvn keyset.kvn card.keysets ≡ false
kvn-new places cards keyset place card is found there none =
    let (within, own) = found-at places cards keyset.card.0 place card is found in
    let not_here = none-passes (is_keyset_of keyset) cards place card none within in
    rw there (rw own at not_here)

-- a keyset is added to the card that is found
pub more-found : {S : Type 0} (places : HashMap ℕ ℕ S) (cards : List CardFacts) (keyset : Keyset) (facts : KeysetFacts) (place : ℕ) (card : CardFacts) → IsPlaced places cards
    → get nat_eq places keyset.card.0 ≡ Some place → card ≡ get_or cards place card
    → set cards place (record card { keysets = card.keysets ++ (keyset.kvn, facts) ∷ [] }) ≡ map (with_more keyset facts) cards
more-found places cards keyset facts place card is found there =
    let (within, own) = found-at places cards keyset.card.0 place card is found in
    let given : with_more keyset facts (get_or cards place card) ≡ record card { keysets = card.keysets ++ (keyset.kvn, facts) ∷ [] } = rw (← there) (rw (rw (← there) at own) refl) in
    rw (← given) (more-at keyset facts 0 place card cards is.distinct (sym (is.found keyset.card.0) ∙ found ∙ ap Some (sym (zero-add place))))

-- no card changes where the keyset's card isn't found
pub more-missing : {S : Type 0} (places : HashMap ℕ ℕ S) (cards : List CardFacts) (keyset : Keyset) (facts : KeysetFacts) → IsPlaced places cards
    → get nat_eq places keyset.card.0 ≡ None → cards ≡ map (with_more keyset facts) cards
more-missing places cards keyset facts is missing =
    sym (more-none keyset facts cards (sym (position-any (λ card. card.card.0 == keyset.card.0) 0 cards) ∙ ap is_some (sym (is.found keyset.card.0) ∙ missing)))

-- the sets of a longer list of keysets
own_ids_push : (listings : List Listing) (listing : Listing) → IsTrue (have_own_ids listings) → lists_keyset listing.id listings ≡ false → IsTrue (have_own_ids (listings ++ listing ∷ []))
own_ids_push [] listing own none = refl
own_ids_push (first ∷ listings) listing own none =
    let (here, more) = both_hold (not (lists_keyset first.id listings)) (have_own_ids listings) own in
    let (apart, rest) = neither_holds (is_same_keyset first.id listing.id) (lists_keyset listing.id listings) none in
    let other : is_same_keyset listing.id first.id ≡ false = is_same_keyset-comm listing.id first.id ∙ apart in
    rw (list_any-append (λ other. is_same_keyset other.id first.id) listings (listing ∷ []), not-true _ here, other, own_ids_push listings listing more rest) refl

-- octets that pass the test of equality are equal
same_bytes : (first second : List ℕ) → bytes_eq first second ≡ true → first ≡ second
same_bytes first second equal = (bytes_eq-Decides first second).0 equal

bytes_eq-comm : (first second : List ℕ) → bytes_eq first second ≡ bytes_eq second first
bytes_eq-comm [] [] = refl
bytes_eq-comm [] (octet ∷ second) = refl
bytes_eq-comm (octet ∷ first) [] = refl
bytes_eq-comm (octet ∷ first) (other ∷ second) = let swap : (octet == other) ≡ (other == octet) = grind (arith, nat_tests) in rw (swap, bytes_eq-comm first second) refl

-- one more test in front of others or behind them
or-last : (first rest : Bool) → (first || rest) ≡ (rest || (first || false))
or-last true true = refl
or-last true false = refl
or-last false true = refl
or-last false false = refl

cond-or : (first rest : Bool) → cond first true rest ≡ (first || rest)
cond-or true rest = refl
cond-or false rest = refl

-- two keys have the same octets
abbrev pub same_key : Vec ℕ Global → Vec ℕ Global → Bool
same_key first second = bytes_eq first.items second.items

pub listed-push : {S : Type 0} (ids new_ids : HashSet (ℕ × ℕ) S) (kids new_kids : HashSet (Vec ℕ Global) S) (listings : List Listing) (listing : Listing) (kid : Vec ℕ Global)
    (added : Bool)
    → IsListed ids kids listings → lists_keyset listing.id listings ≡ false → kid.items ≡ listing.facts.kid
    → ((pair : ℕ × ℕ) → bag.contains same_pair new_ids pair ≡ cond (same_pair (listing.id.card.0, listing.id.kvn) pair) true (bag.contains same_pair ids pair))
    → added ≡ not (bag.contains same_key kids kid) → bag.PutsKey kids new_kids kid added
    → IsListed new_ids new_kids (listings ++ listing ∷ [])
listed-push ids new_ids kids new_kids listings listing kid added is none said updates new puts = record {
  found = λ id.
      updates (id.card.0, id.kvn) ∙ rw (is.found id, list_any-append (λ other. is_same_keyset other.id id) listings (listing ∷ []))
      (cond-or (is_same_keyset listing.id id) (lists_keyset id listings) ∙ or-last (is_same_keyset listing.id id) (lists_keyset id listings));
  found_kid = λ wanted.
      kids_of added wanted new puts
      ∙ rw (said, list_any-append (λ other. bytes_eq other.facts.kid wanted) listings (listing ∷ []), bytes_eq-comm wanted listing.facts.kid)
      (or-last (bytes_eq listing.facts.kid wanted) (has_kid wanted listings));
  distinct = own_ids_push listings listing is.distinct none;
}
  where
    has_key : List ℕ → Vec ℕ Global → Bool
    has_key wanted key = bytes_eq wanted key.items

    again : (wanted : List ℕ) → bag.contains same_key kids kid ≡ true → has_kid wanted listings ≡ (bytes_eq wanted kid.items || has_kid wanted listings)
    again wanted there =
        elim (cases_Bool (bytes_eq wanted kid.items)) [
          | inl same ↦ rw (same, same_bytes wanted kid.items same, ← is.found_kid kid.items, there) refl
          | inr other ↦ rw other refl
        ]

    not-false : (test : Bool) → false ≡ not test → test ≡ true
    not-false true is = refl
    not-false false is = cc is

    kids_of : (added : Bool) (wanted : List ℕ) → added ≡ not (bag.contains same_key kids kid) → bag.PutsKey kids new_kids kid added
        → bag.contains_by (has_key wanted) new_kids ≡ (bytes_eq wanted kid.items || has_kid wanted listings)
    kids_of true wanted new puts = rw (← list_any-IsPermutation (has_key wanted) (kid ∷ kids.keys) new_kids.keys puts, is.found_kid wanted) refl
    kids_of false wanted new puts = rw (puts, is.found_kid wanted) (again wanted (not-false _ new))
