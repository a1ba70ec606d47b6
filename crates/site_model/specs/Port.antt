-- What stands beside the disk of a site: what its port sent and gave, and what its cards are and made.
use Rattle.std.specs.Prelude.{◌≡◌, ◌⊎◌, ℕ, ◌+◌, List, [], ◌∷◌, ◌++◌}
use Rattle.ota_core.specs.declared.cards.CardId.{CardId}
use Rattle.ota_core.specs.declared.cards.CardFacts.{CardFacts}
use Rattle.world_core.specs.declared.answers.Made.{Made}
use Rattle.site_model.specs.declared.departures.Departure.{Departure}

pub record PortState : Type 0 where
  -- the pieces that were handed to the port
  pub sent : List Departure
  -- the messages that the port gave, with their cards
  pub given : List (CardId × List ℕ)
  -- each card's facts, as it was issued
  pub facts : List CardFacts
  -- the secured answers that the cards made
  pub made : List Made
  pub polls : ℕ

-- at a moment of a send: as it was before, or longer by that piece
pub record IsSending (before now : PortState) (departure : Departure) : Type 0 where
  pub sent : (now.sent ≡ before.sent) ⊎ (now.sent ≡ before.sent ++ departure ∷ [])
  pub given : now.given ≡ before.given
  pub polls : now.polls ≡ before.polls

-- at a moment of a poll: as it was before, or longer by one message, and at most one poll more
pub record IsPolling (before now : PortState) : Type 0 where
  pub sent : now.sent ≡ before.sent
  pub given : (now.given ≡ before.given) ⊎ ((message : CardId × List ℕ) × (now.given ≡ before.given ++ message ∷ []))
  pub polls : (now.polls ≡ before.polls) ⊎ (now.polls ≡ before.polls + 1)
