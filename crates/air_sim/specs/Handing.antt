-- How the port hands pieces over to the cards.
use Rattle.std.specs.Prelude.{◌≡◌, ◌⊎◌, ℕ, Option, Some, None, List, [], ◌∷◌, ◌++◌, map, slice_get, Result, Ok, Err}
use Rattle.std.specs.Option.{option_map}
use Rattle.disk_model.specs.Counts.{Counts}
use Rattle.disk_model.specs.Disk.{Meaning}
use Rattle.ota_core.specs.declared.cards.CardId.{CardId}
use Rattle.ota_core.specs.declared.wants.Memory.{Memory}
use Rattle.receiving_entity.specs.Card.{CardValue}
use Rattle.site_model.specs.declared.departures.Departure.{Departure}
use Rattle.air_sim.specs.declared.parts.Parts.{Parts}
use Rattle.air_sim.specs.declared.schedules.Cut.{Cut}
use Rattle.air_sim.specs.Cards.{card_of, with_card}
use Rattle.air_sim.specs.Meeting.{Meets}
use Rattle.air_sim.specs.Messages.{Message}
use Rattle.air_sim.specs.Pieces.{message_of}

-- a piece that is handed over: its position among those that were sent, the power cut that is armed with it, and the messages of
-- the card's answer; None where memory was wanting
pub record Handing : Type 0 where
  pub position : ℕ
  pub cut : Option Cut
  pub reply : Option (List (List ℕ))

-- a call that hands a piece over finds memory wanting where its card's answer does
abbrev pub IsReplyOf : Result (Unit {0}) Memory → Option (List (List ℕ)) → Type 0
IsReplyOf (Ok done) reply = (messages : List (List ℕ)) × (reply ≡ Some messages)
IsReplyOf (Err want) reply = reply ≡ None

-- the card of a piece and its message, where a message carries it
abbrev pub addressed_by : Option Departure → Option (CardId × List ℕ)
addressed_by None = None
addressed_by (Some piece) = option_map (λ message. (piece.card, message)) (message_of piece)

-- the messages of an answer, with their card
abbrev pub messages_by : CardId → Option (List (List ℕ)) → List (CardId × List ℕ)
messages_by card (Some messages) = map (λ message. (card, message)) messages
messages_by card None = []

abbrev pub joined_by : Option (CardId × List ℕ) → Option (List (List ℕ)) → List (CardId × List ℕ)
joined_by (Some it) reply = messages_by it.0 reply
joined_by None reply = []

abbrev pub octets_with_cards : List Message → List (CardId × List ℕ)
octets_with_cards messages = map (λ message. (message.0, message.1.items)) messages

module _ {D B C : Type 0} (told : Meaning D B C) (counts : D → Counts) where
  -- the card with this number meets the message, and stands in its own place afterwards
  pub record MeetsIn (cards new : List (CardValue D)) (number : ℕ) (message : List ℕ) (cut : Option Cut) (reply : Option (List (List ℕ))) : Type 0 where
    pub card : CardValue D
    pub after : CardValue D
    pub found : card_of number cards ≡ Some card
    pub meets : Meets told counts card after message cut reply
    pub stands : new ≡ with_card after cards

  -- The card meets the message; where it isn't there the message is dropped. Memory may be wanting for the messages of its answer,
  -- which are lost then.
  abbrev pub CardMeets : List (CardValue D) → List (CardValue D) → CardId → List ℕ → Option (CardValue D) → Option Cut → Option (List (List ℕ)) → Type 0
  CardMeets cards new card message (Some there) cut reply = (made : Option (List (List ℕ))) × MeetsIn cards new card.0 message cut made × ((reply ≡ made) ⊎ (reply ≡ None))
  CardMeets cards new card message None cut reply = (new ≡ cards) × (reply ≡ Some [])

  -- a piece that no message carries is dropped
  abbrev pub PieceMeets : List (CardValue D) → List (CardValue D) → Option (CardId × List ℕ) → Option Cut → Option (List (List ℕ)) → Type 0
  PieceMeets cards new (Some (card, message)) cut reply = CardMeets cards new card message (card_of card.0 cards) cut reply
  PieceMeets cards new None cut reply = (new ≡ cards) × (reply ≡ Some [])

  -- the messages of its answer join those that the cards made, in order
  pub record HandsOver (before after : Parts D B C) (handing : Handing) : Type 0 where
    pub journal : after.journal ≡ before.journal
    pub sent : after.sent ≡ before.sent
    pub meets : PieceMeets before.cards.items after.cards.items (addressed_by (slice_get before.sent.items handing.position)) handing.cut handing.reply
    pub messages : octets_with_cards after.messages.items ≡ octets_with_cards before.messages.items ++ joined_by (addressed_by (slice_get before.sent.items handing.position)) handing.reply
    pub next : after.messages.next ≡ before.messages.next

  -- one piece after the other
  abbrev pub HandsOverAll : Parts D B C → List Handing → Parts D B C → Type 0
  HandsOverAll before [] after = after ≡ before
  HandsOverAll before (handing ∷ handings) after = (mid : Parts D B C) × HandsOver before mid handing × HandsOverAll mid handings after

  -- ---- the calls

  -- a message goes to the card with this number
  pub record HandsMessage (before after : Parts D B C) (card : CardId) (message : List ℕ) (cut : Option Cut) (result : Result (Unit {0}) Memory) : Type 0 where
    pub reply : Option (List (List ℕ))
    pub is : IsReplyOf result reply
    pub meets : CardMeets before.cards.items after.cards.items card message (card_of card.0 before.cards.items) cut reply
    pub messages : octets_with_cards after.messages.items ≡ octets_with_cards before.messages.items ++ messages_by card reply

  -- the piece at this position is handed over
  pub record HandsPiece (before after : Parts D B C) (position : ℕ) (cut : Option Cut) (result : Result (Unit {0}) Memory) : Type 0 where
    pub reply : Option (List (List ℕ))
    pub is : IsReplyOf result reply
    pub hands : HandsOver before after (record { position = position; cut = cut; reply = reply })
