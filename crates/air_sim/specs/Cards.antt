-- The cards of a site, found by their numbers.
use Rattle.std.specs.Prelude.{ℕ, ◌==◌, ◌&&◌, not, if◌then◌else◌, Bool, true, Option, Some, None, List, [], ◌∷◌, map, position}
use Rattle.ota_core.specs.declared.cards.CardFacts.{CardFacts}
use Rattle.receiving_entity.specs.Card.{CardValue}

module _ {D : Type 0} where
  abbrev pub facts_of : CardValue D → CardFacts
  facts_of card = card.store.facts

  abbrev pub number_of : CardValue D → ℕ
  number_of card = card.store.facts.card.0

  -- the card with this number
  abbrev pub card_of : ℕ → List (CardValue D) → Option (CardValue D)
  card_of number [] = None
  card_of number (card ∷ cards) = if number_of card == number then Some card else card_of number cards

  -- the place of the card with this number
  abbrev pub place_in : ℕ → List (CardValue D) → Option ℕ
  place_in number cards = position (λ card. number_of card == number) cards

  -- this card in the place of the one with its number
  abbrev pub with_card : CardValue D → List (CardValue D) → List (CardValue D)
  with_card card [] = []
  with_card card (other ∷ cards) = if number_of other == number_of card then card ∷ cards else (other ∷ with_card card cards)

-- ---- facts of cards

-- without those of a number
abbrev pub without : ℕ → List CardFacts → List CardFacts
without number [] = []
without number (facts ∷ others) = if facts.card.0 == number then without number others else (facts ∷ without number others)

-- those of the cards that are found by their numbers: of each number the first
abbrev pub reached : List CardFacts → List CardFacts
reached [] = []
reached (facts ∷ others) = facts ∷ without facts.card.0 (reached others)

-- none is of this number
abbrev pub is_free : ℕ → List CardFacts → Bool
is_free number [] = true
is_free number (facts ∷ others) = not (facts.card.0 == number) && is_free number others

-- the numbers differ
abbrev pub are_distinct : List CardFacts → Bool
are_distinct [] = true
are_distinct (facts ∷ others) = is_free facts.card.0 others && are_distinct others

module _ {D : Type 0} where
  abbrev pub facts_in : List (CardValue D) → List CardFacts
  facts_in cards = reached (map facts_of cards)
