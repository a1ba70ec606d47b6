-- Cards and lines that are found by their numbers.
use Rattle.std.specs.Prelude.{◌≡◌, ◌⊎◌, ℕ, ◌==◌, ◌&&◌, not, Bool, true, false, cond, Option, Some, None, List, [], ◌∷◌, map, find, refl}
use Rattle.std.proofs.Common.{inl, inr, sym, ◌∙◌, ap, subst}
use Rattle.std.proofs.lemmas.Bool.{and_parts, eqb-true, eqb-false, eq-eqb}
use Rattle.ota_core.specs.declared.cards.CardFacts.{CardFacts}
use Rattle.receiving_entity.specs.Card.{CardValue}
use Rattle.world_core.specs.Members.{In}
use Rattle.air_sim.specs.Cards.{are_distinct, card_of, facts_in, facts_of, is_free, number_of, reached, with_card, without}

-- ---- facts without those of a number

in_without : (number : ℕ) (x : CardFacts) (all : List CardFacts) → (x.card.0 ≡ number → ⊥) → In x all → In x (without number all)
in_without number x [] apart there = there
in_without number x (facts ∷ others) apart there =
    elim (facts.card.0 == number) as (λ b. (facts.card.0 == number) ≡ b → In x (cond b (without number others) (facts ∷ without number others))) [
      | true ↦ λ same. further same (in_without number x others apart) there
      | false ↦ λ differ. either (in_without number x others apart) there
    ] refl
  where
    further : (facts.card.0 == number) ≡ true → (In x others → In x (without number others)) → (x ≡ facts) ⊎ In x others → In x (without number others)
    further same goes (inl is) = absurd (apart (ap (λ (f : CardFacts). f.card.0) is ∙ eqb-true facts.card.0 number same))
    further same goes (inr later) = goes later

    either : (In x others → In x (without number others)) → (x ≡ facts) ⊎ In x others → (x ≡ facts) ⊎ In x (without number others)
    either goes (inl is) = inl is
    either goes (inr later) = inr (goes later)

without_in : (number : ℕ) (x : CardFacts) (all : List CardFacts) → In x (without number all) → (x.card.0 ≡ number → ⊥) × In x all
without_in number x [] there = absurd there
without_in number x (facts ∷ others) there =
    elim (facts.card.0 == number) as (λ b. (facts.card.0 == number) ≡ b → In x (cond b (without number others) (facts ∷ without number others)) → (x.card.0 ≡ number → ⊥) × ((x ≡ facts) ⊎ In x others)) [
      | true ↦ λ same at. let found = without_in number x others at in (found.0, inr found.1)
      | false ↦ λ differ at. either differ (without_in number x others) at
    ] refl there
  where
    either : (facts.card.0 == number) ≡ false → (In x (without number others) → (x.card.0 ≡ number → ⊥) × In x others) → (x ≡ facts) ⊎ In x (without number others) → (x.card.0 ≡ number → ⊥) × ((x ≡ facts) ⊎ In x others)
    either differ goes (inl is) = (λ same. eqb-false facts.card.0 number differ (sym (ap (λ (f : CardFacts). f.card.0) is) ∙ same), inl is)
    either differ goes (inr later) = let found = goes later in (found.0, inr found.1)

module _ {D : Type 0} where
  some_same : (a b : CardValue D) → Some a ≡ Some b → a ≡ b
  some_same a b e = cc

  -- ---- a card in the place of the one with its number

  pub found_new : (card after : CardValue D) (cards : List (CardValue D)) → card_of (number_of after) cards ≡ Some card → card_of (number_of after) (with_card after cards) ≡ Some after
  found_new card after [] found = absurd cc
  found_new card after (other ∷ cards) found =
      elim (number_of other == number_of after) as (λ b. (number_of other == number_of after) ≡ b → cond b (Some other) (card_of (number_of after) cards) ≡ Some card
      → card_of (number_of after) (cond b (after ∷ cards) (other ∷ with_card after cards)) ≡ Some after) [
        | true ↦ λ is e. ap (λ (b : Bool). cond b (Some after) (card_of (number_of after) cards)) (eq-eqb (number_of after) (number_of after) refl)
        | false ↦ λ is e. ap (λ (b : Bool). cond b (Some other) (card_of (number_of after) (with_card after cards))) is ∙ found_new card after cards e
      ] refl found

  pub found_other : (number : ℕ) (after : CardValue D) (cards : List (CardValue D)) → (number_of after == number) ≡ false → card_of number (with_card after cards) ≡ card_of number cards
  found_other number after [] apart = refl
  found_other number after (other ∷ cards) apart =
      elim (number_of other == number_of after) as (λ b. (number_of other == number_of after) ≡ b
      → card_of number (cond b (after ∷ cards) (other ∷ with_card after cards)) ≡ cond (number_of other == number) (Some other) (card_of number cards)) [
        | true ↦ λ is.
            ap (λ (b : Bool). cond b (Some after) (card_of number cards)) apart
            ∙ sym (ap (λ (b : Bool). cond b (Some other) (card_of number cards)) (ap (λ (n : ℕ). n == number) (eqb-true (number_of other) (number_of after) is) ∙ apart))
        | false ↦ λ is. ap (λ (o : Option (CardValue D)). cond (number_of other == number) (Some other) o) (found_other number after cards apart)
      ] refl

  facts_all : (after card : CardValue D) (cards : List (CardValue D)) → facts_of after ≡ facts_of card → card_of (number_of after) cards ≡ Some card → map facts_of (with_card after cards) ≡ map facts_of cards
  facts_all after card [] same found = refl
  facts_all after card (other ∷ cards) same found =
      elim (number_of other == number_of after) as (λ b. cond b (Some other) (card_of (number_of after) cards) ≡ Some card → map facts_of (cond b (after ∷ cards) (other ∷ with_card after cards)) ≡ facts_of other ∷ map facts_of cards) [
        | true ↦ λ e. ap (λ (f : CardFacts). f ∷ map facts_of cards) (same ∙ ap facts_of (some_same card other (sym e)))
        | false ↦ λ e. ap (λ (l : List CardFacts). facts_of other ∷ l) (facts_all after card cards same e)
      ] found

  pub facts_stay : (after card : CardValue D) (cards : List (CardValue D)) → facts_of after ≡ facts_of card → card_of (number_of after) cards ≡ Some card → facts_in (with_card after cards) ≡ facts_in cards
  facts_stay after card cards same found = ap reached (facts_all after card cards same found)

  -- ---- the card with a number

  pub found_number : (number : ℕ) (card : CardValue D) (cards : List (CardValue D)) → card_of number cards ≡ Some card → number_of card ≡ number
  found_number number card [] found = absurd cc
  found_number number card (other ∷ cards) found =
      elim (number_of other == number) as (λ b. (number_of other == number) ≡ b → cond b (Some other) (card_of number cards) ≡ Some card → number_of card ≡ number) [
        | true ↦ λ same e. ap number_of (some_same card other (sym e)) ∙ eqb-true (number_of other) number same
        | false ↦ λ differ e. found_number number card cards e
      ] refl found

  pub found_there : (number : ℕ) (card : CardValue D) (cards : List (CardValue D)) → card_of number cards ≡ Some card → In (facts_of card) (facts_in cards)
  found_there number card [] found = absurd cc
  found_there number card (other ∷ cards) found =
      elim (number_of other == number) as (λ b. (number_of other == number) ≡ b → cond b (Some other) (card_of number cards) ≡ Some card → (facts_of card ≡ facts_of other) ⊎ In (facts_of card) (without (number_of other) (facts_in cards))) [
        | true ↦ λ same e. inl (ap facts_of (some_same card other (sym e)))
        | false ↦ λ differ e. inr (in_without (number_of other) (facts_of card) (facts_in cards) (λ same. eqb-false (number_of other) number differ (sym same ∙ found_number number card cards e)) (found_there number card cards e))
      ] refl found

  -- facts of one of the cards are those of the card that is found by their number
  pub facts_found : (facts : CardFacts) (card : CardValue D) (cards : List (CardValue D)) → In facts (facts_in cards) → card_of facts.card.0 cards ≡ Some card → facts ≡ facts_of card
  facts_found facts card [] there found = absurd there
  facts_found facts card (other ∷ cards) there found = at_place (facts_found facts card cards) there
    where
      first : (number_of other == facts.card.0) ≡ true → facts_of card ≡ facts_of other
      first same = ap facts_of (some_same card other (sym (sym (ap (λ (b : Bool). cond b (Some other) (card_of facts.card.0 cards)) same) ∙ found)))

      later : (number_of other == facts.card.0) ≡ false → card_of facts.card.0 cards ≡ Some card
      later differ = sym (ap (λ (b : Bool). cond b (Some other) (card_of facts.card.0 cards)) differ) ∙ found

      apart : (b : Bool) → (number_of other == facts.card.0) ≡ b → (facts.card.0 ≡ number_of other → ⊥) → (number_of other == facts.card.0) ≡ false
      apart false e differ = e
      apart true e differ = absurd (differ (sym (eqb-true (number_of other) facts.card.0 e)))

      at_place : (In facts (facts_in cards) → card_of facts.card.0 cards ≡ Some card → facts ≡ facts_of card) → (facts ≡ facts_of other) ⊎ In facts (without (number_of other) (facts_in cards)) → facts ≡ facts_of card
      at_place goes (inl is) = is ∙ sym (first (eq-eqb (number_of other) facts.card.0 (ap (λ (f : CardFacts). f.card.0) (sym is))))
      at_place goes (inr further) =
          let out = without_in (number_of other) facts (facts_in cards) further in
          goes out.1 (later (apart (number_of other == facts.card.0) refl out.0))

-- ---- distinct numbers

-- where the numbers differ all are reached
pub all_reached : (all : List CardFacts) → are_distinct all ≡ true → reached all ≡ all
all_reached [] distinct = refl
all_reached (facts ∷ others) distinct =
    let both = and_parts (is_free facts.card.0 others) (are_distinct others) distinct in
    ap (λ (l : List CardFacts). facts ∷ l) (ap (without facts.card.0) (all_reached others both.1) ∙ kept others both.0)
  where
    kept : (rest : List CardFacts) → is_free facts.card.0 rest ≡ true → without facts.card.0 rest ≡ rest
    kept [] free = refl
    kept (other ∷ rest) free =
        elim (other.card.0 == facts.card.0) as (λ b. (not b && is_free facts.card.0 rest) ≡ true → cond b (without facts.card.0 rest) (other ∷ without facts.card.0 rest) ≡ other ∷ rest) [
          | true ↦ λ e. absurd cc
          | false ↦ λ e. ap (λ (l : List CardFacts). other ∷ l) (kept rest e)
        ] free
