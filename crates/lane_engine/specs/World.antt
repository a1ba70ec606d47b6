-- The world of a lane: its history, what was sent of its reservations, and the cards with what they logged and answered.
use Rattle.std.specs.Prelude.{◌≡◌, ℕ, true, None, Some, Ok, List, [], ◌∷◌, map}
use Rattle.command_packet.specs.Carried.{carries}
use Rattle.ota_core.specs.declared.cards.CardFacts.{CardFacts}
use Rattle.ota_core.specs.declared.entries.Entry.{Entry}
use Rattle.site_model.specs.Port.{PortState}
use Rattle.site_model.specs.declared.departures.Departure.{Departure}
use Rattle.world_core.specs.Card.{CardState}
use Rattle.world_core.specs.Effect.{piece_of}
use Rattle.world_core.specs.Packet.{Packet, packet_at}
use Rattle.world_core.specs.WorldState.{WorldState}
use Rattle.world_core.specs.declared.lines.Line.{Line}
use Rattle.world_core.specs.declared.segments.Sent.{Sent}
use Rattle.lane_engine.specs.Packets.{departure_at, keys_of, octets_of, spi_of}

-- the cards with these facts, each with its lines
abbrev pub cards_of : List CardFacts → (ℕ → List Line) → List CardState
cards_of facts lines = map (λ card. record { facts = card; log = lines card.card.0 }) facts

-- the gateway is up, and writes no batch
abbrev pub world_of : List Entry → PortState → (ℕ → List Line) → List Sent → List ℕ → WorldState
world_of history port lines sent given = record {
  history = history;
  batch = None;
  up = true;
  sent = sent;
  cards = cards_of port.facts lines;
  made = port.made;
  given = given;
}

-- what was handed to the port is that piece of a reservation of the history: for its card, with its octets under the
-- facts of its keyset's Open, which carry it, and with its reference
pub record IsPieceOf (history : List Entry) (departure : Departure) (piece : Sent) : Type 0 where
  pub packet : Packet
  pub reserved : packet_at history piece.reservation ≡ Some packet
  pub departs : departure ≡ departure_at packet piece.place
  pub of_card : piece ≡ piece_of piece.reservation piece.place packet
  pub carried : carries (keys_of packet.opened) packet.keyset.kvn (octets_of packet)
      ≡ Ok (record { kvn = packet.keyset.kvn; spi = spi_of packet.opened; tar = packet.tar; counter = packet.counter; body = packet.body })

-- each of what was handed to the port is such a piece, in order
abbrev pub AreSent : List Entry → List Departure → List Sent → Type 0
AreSent history [] [] = Unit {0}
AreSent history (departure ∷ departures) (piece ∷ pieces) = IsPieceOf history departure piece × AreSent history departures pieces
AreSent history _ _ = ⊥
