-- Where the cards of a list stand.
use Rattle.std.specs.Prelude.{◌≡◌, ℕ, nat_eq, ◌==◌, ◌&&◌, not, Bool, true, if◌then◌else◌, IsTrue, Option, List, [], ◌∷◌, ◌++◌}
use Rattle.std.specs.List.{position_from}
use Rattle.std.specs.HashMap.{HashMap, get}
use Rattle.ota_core.specs.Keyset.{Keyset}
use Rattle.ota_core.specs.declared.cards.CardFacts.{CardFacts}
use Rattle.ota_core.specs.declared.keysets.KeysetFacts.{KeysetFacts}
use Rattle.plan_reader.specs.PlanTable.{has_number}

-- the place of the first card with this number
abbrev pub place_of : ℕ → List CardFacts → Option ℕ
place_of number cards = position_from (λ card. card.card.0 == number) 0 cards

-- no two cards have one number
abbrev pub have_own_numbers : List CardFacts → Bool
have_own_numbers [] = true
have_own_numbers (card ∷ cards) = not (has_number card.card.0 cards) && have_own_numbers cards

-- the map has the place of each card, and no two cards have one number
pub record IsPlaced {S : Type 0} (places : HashMap ℕ ℕ S) (cards : List CardFacts) : Type 0 where
  pub found : (number : ℕ) → get nat_eq places number ≡ place_of number cards
  pub distinct : IsTrue (have_own_numbers cards)

-- a card with this keyset behind its own, where the keyset is the card's
abbrev pub with_more : Keyset → KeysetFacts → CardFacts → CardFacts
with_more keyset facts card =
    if card.card.0 == keyset.card.0 then record card { keysets = card.keysets ++ (keyset.kvn, facts) ∷ [] } else card
