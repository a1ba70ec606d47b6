-- Which packets messages make: a function of the whole list of messages. 3GPP TS 23.040, 9.2.3.24.1.
--
-- A past is the messages before one, newest first.
use Rattle.std.specs.Prelude.{ℕ, zero, suc, ◌==◌, ◌&&◌, Bool, true, false, if◌then◌else◌, Option, Some, None, is_some, unwrap_or, List, [], ◌∷◌, ◌++◌}
use Rattle.ota_core.specs.declared.cards.CardId.{CardId}
use Rattle.ota_core.specs.declared.references.Reference.{Reference}
use Rattle.ota_core.specs.declared.references.Reference.TheVariants.{Short, Wide}
use Rattle.sms_segments.specs.declared.headers.Header.{Header}
use Rattle.sms_segments.specs.declared.headers.Header.TheVariants.{Only, Part}
use Rattle.sms_segments.specs.declared.concatenations.Concatenation.{Concatenation}
use Rattle.sms_segments.specs.declared.assembling.Push.{Push}
use Rattle.sms_segments.specs.declared.assembling.Push.TheVariants.{Whole, More, NotOurs}
use Rattle.sms_segments.specs.Header.{header_of, octets_behind}

-- a message to a card or from it, or a packet
pub record OfCard : Type 0 where
  pub card : CardId
  pub octets : List ℕ

-- the same reference: one of one octet and one of two are different ones, whatever their numbers
abbrev pub is_same_reference : Reference → Reference → Bool
is_same_reference (Short a) (Short b) = a == b
is_same_reference (Wide a) (Wide b) = a == b
is_same_reference _ _ = false

-- the same card, reference and total
abbrev pub is_same : Concatenation → Concatenation → Bool
is_same a b = (a.card.0 == b.card.0) && is_same_reference a.reference b.reference && (a.total == b.total)

-- ---- what is there of one packet

-- for each place, the octets of the last piece at it
abbrev pub Pieces : Type 0
Pieces = ℕ → Option (List ℕ)

abbrev pub no_pieces : Pieces
no_pieces place = None

-- with one more piece, the last at its place
abbrev pub with_piece : ℕ → List ℕ → Pieces → Pieces
with_piece place octets pieces other = if other == place then Some octets else pieces other

-- each place from 1 to the last has a piece
abbrev pub is_whole : ℕ → Pieces → Bool
is_whole zero pieces = true
is_whole (suc last) pieces = is_some (pieces (suc last)) && is_whole last pieces

-- the octets from place 1 to the last
abbrev pub joined : ℕ → Pieces → List ℕ
joined zero pieces = []
joined (suc last) pieces = joined last pieces ++ unwrap_or (pieces (suc last)) []

-- ---- what messages leave

-- the place and the octets that a message with this header brings to a packet
abbrev pub piece_by : Concatenation → OfCard → Option Header → Option (ℕ × List ℕ)
piece_by of message (Some (Part reference total place)) =
    if is_same (record { card = message.card; reference = reference; total = total }) of
    then Some (place, octets_behind (Part reference total place) message.octets) else None
piece_by of message _ = None

abbrev pub piece_in : ℕ → Concatenation → OfCard → Option (ℕ × List ℕ)
piece_in element of message = piece_by of message (header_of element message.octets)

-- a packet that is whole starts anew
abbrev pub unless_whole : ℕ → Pieces → Pieces
unless_whole total pieces = if is_whole total pieces then no_pieces else pieces

-- what is there of a packet after a message
abbrev pub after : ℕ → Option (ℕ × List ℕ) → Pieces → Pieces
after total None pieces = pieces
after total (Some piece) pieces = unless_whole total (with_piece piece.0 piece.1 pieces)

-- what is there of a packet after a past
abbrev pub pieces_after : ℕ → List OfCard → Concatenation → Pieces
pieces_after element [] of = no_pieces
pieces_after element (message ∷ past) of = after of.total (piece_in element of message) (pieces_after element past of)

-- ---- what a message makes whole

-- the packet, where it is whole with this piece
abbrev pub if_whole : ℕ → Pieces → Push
if_whole total pieces = if is_whole total pieces then Whole (joined total pieces) else More

abbrev pub answer_by : ℕ → List OfCard → OfCard → Option Header → Push
answer_by element past message None = NotOurs
answer_by element past message (Some Only) = Whole (octets_behind Only message.octets)
answer_by element past message (Some (Part reference total place)) =
    if_whole total (with_piece place (octets_behind (Part reference total place) message.octets)
    (pieces_after element past (record { card = message.card; reference = reference; total = total })))

-- what a message is answered behind a past: the packet that it makes whole, that more is awaited, or that it isn't
-- a message for this element
abbrev pub answer_to : ℕ → List OfCard → OfCard → Push
answer_to element past message = answer_by element past message (header_of element message.octets)

abbrev pub packet_in : CardId → Push → List OfCard
packet_in card (Whole octets) = record { card = card; octets = octets } ∷ []
packet_in card _ = []

-- the packets that a past made whole, oldest first
abbrev pub assembled : ℕ → List OfCard → List OfCard
assembled element [] = []
assembled element (message ∷ past) = assembled element past ++ packet_in message.card (answer_to element past message)
