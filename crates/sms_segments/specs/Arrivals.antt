-- What holds of packets and messages, in whatever order the messages come. 3GPP TS 23.040, 9.2.3.24.1.
use Rattle.std.specs.Prelude.{◌≡◌, ◌≢◌, ℕ, ◌≤◌, ◌<◌, ◌==◌, Bool, true, false, Option, Some, None, is_some, List, [], ◌∷◌, length, map, filter}
use Rattle.std.specs.List.{list_any}
use Rattle.ota_core.specs.declared.cards.CardId.{CardId}
use Rattle.ota_core.specs.declared.references.Reference.{Reference}
use Rattle.sms_segments.specs.declared.headers.Header.{Header}
use Rattle.sms_segments.specs.declared.headers.Header.TheVariants.{Part}
use Rattle.sms_segments.specs.declared.concatenations.Concatenation.{Concatenation}
use Rattle.sms_segments.specs.declared.assembling.Push.TheVariants.{Whole}
use Rattle.sms_segments.specs.Header.{header_of, is_wide_reference}
use Rattle.sms_segments.specs.Cut.{longest, piece_of, pieces_count}
use Rattle.sms_segments.specs.Assembled.{OfCard, answer_to, assembled, piece_in}

-- a place is among places
abbrev pub has : ℕ → List ℕ → Bool
has place places = list_any (λ other. other == place) places

-- behind pieces at these places the piece at the place `last` is the one that fills the last place of so many
pub record FillsLast (total last : ℕ) (before : List ℕ) : Type 0 where
  pub from_one : 1 ≤ last
  pub within : last ≤ total
  pub new : has last before ≡ false
  pub places : (place : ℕ) → has place before ≡ true → (1 ≤ place) × (place ≤ total)
  pub others : (place : ℕ) → 1 ≤ place → place ≤ total → place ≢ last → has place before ≡ true

-- the message at a place of a packet that a card gets or sends
abbrev pub message_at : CardId → List ℕ → ℕ → Reference → ℕ → OfCard
message_at card packet element reference place = record { card = card; octets = piece_of packet element reference place }

-- what the pieces of a packet of several messages have in common
abbrev pub concatenation_of : CardId → List ℕ → Reference → Concatenation
concatenation_of card packet reference =
    record { card = card; reference = reference; total = pieces_count (length packet) (is_wide_reference reference) }

-- the message is a piece of this packet
abbrev pub is_piece_of : ℕ → Concatenation → OfCard → Bool
is_piece_of element of message = is_some (piece_in element of message)

-- A packet of one message is whole by itself, whatever came before.
abbrev pub OneMakesIt : Type 0
OneMakesIt = (card : CardId) (packet : List ℕ) (element : ℕ) (reference : Reference) (past : List OfCard) → 1 ≤ length packet → length packet ≤ 137
    → answer_to element past (message_at card packet element reference 1) ≡ Whole packet

-- Of a packet of several messages, with a reference of either kind, all pieces in any order, some of them more than once before the last place is filled,
-- and among any other messages, give the packet with the piece that fills the last place.
abbrev pub PiecesMakeIt : Type 0
PiecesMakeIt = (card : CardId) (packet : List ℕ) (element : ℕ) (reference : Reference) (past : List OfCard) (before : List ℕ) (last : ℕ)
    → 137 < length packet → length packet ≤ longest (is_wide_reference reference)
    → filter (is_piece_of element (concatenation_of card packet reference)) past ≡ map (message_at card packet element reference) before
    → FillsLast (pieces_count (length packet) (is_wide_reference reference)) last before
    → answer_to element past (message_at card packet element reference last) ≡ Whole packet

-- The same pieces by themselves give that packet once and nothing else.
abbrev pub PiecesMakeOne : Type 0
PiecesMakeOne = (card : CardId) (packet : List ℕ) (element : ℕ) (reference : Reference) (before : List ℕ) (last : ℕ)
    → 137 < length packet → length packet ≤ longest (is_wide_reference reference)
    → FillsLast (pieces_count (length packet) (is_wide_reference reference)) last before
    → assembled element (map (message_at card packet element reference) (last ∷ before)) ≡ record { card = card; octets = packet } ∷ []

-- the card, the reference and the total that a message with this header names
abbrev pub named_by : OfCard → Option Header → Option Concatenation
named_by message (Some (Part reference total place)) = Some (record { card = message.card; reference = reference; total = total })
named_by message _ = None

-- the other message is a piece of the packet that is named, if one is
abbrev pub is_of : ℕ → Option Concatenation → OfCard → Bool
is_of element None other = false
is_of element (Some named) other = is_piece_of element named other

-- What a message is answered depends on those alone that came before of its own card, reference and total.
abbrev pub PacketsDontMix : Type 0
PacketsDontMix = (element : ℕ) (past : List OfCard) (message : OfCard)
    → answer_to element past message ≡ answer_to element (filter (is_of element (named_by message (header_of element message.octets))) past) message
