-- Deliveries in their own words.
use Rattle.std.specs.Prelude.{◌≡◌, ℕ, ◌≤◌, Some, List, slice_get}
use Rattle.ota_core.specs.declared.cards.CardId.{CardId}
use Rattle.world_core.specs.Members.{In}
use Rattle.world_core.specs.Packet.{Packet, packet_at, pieces_of}
use Rattle.world_core.specs.WorldState.{WorldState}
use Rattle.world_core.specs.declared.segments.Sent.{Sent}
use Rattle.world_core.specs.declared.events.Event.{Event}
use Rattle.world_core.specs.declared.events.Event.TheVariants.{Deliver}

-- each of the pieces left for the card and is of the reservation, and each place of its packet is that of one of them
pub record IsWhole (w : WorldState) (card : CardId) (pieces : List ℕ) (reservation : ℕ) (packet : Packet) : Type 0 where
  pub reserved : packet_at w.history reservation ≡ Some packet
  pub of_it : (position : ℕ) → In position pieces
      → (piece : Sent) × (slice_get w.sent position ≡ Some piece) × (piece.card ≡ card) × (piece.reservation ≡ reservation)
  pub places : (place : ℕ) → 1 ≤ place → place ≤ pieces_of packet
      → (position : ℕ) × In position pieces × (piece : Sent) × (slice_get w.sent position ≡ Some piece) × (piece.place ≡ place)

-- what is delivered is whole
abbrev pub DeliversWhole : WorldState → Event → Type 0
DeliversWhole w (Deliver card pieces step) = (reservation : ℕ) × (packet : Packet) × IsWhole w card pieces reservation packet
DeliversWhole w _ = Unit {0}

-- what is delivered is whole of no reservation
abbrev pub DeliversNoWhole : WorldState → Event → Type 0
DeliversNoWhole w (Deliver card pieces step) = (reservation : ℕ) (packet : Packet) → IsWhole w card pieces reservation packet → ⊥
DeliversNoWhole w _ = Unit {0}
