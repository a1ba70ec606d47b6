-- The pieces of packets of reservations, as events and as what was handed over.
use Rattle.std.proofs.Common.{◌≡◌, inl, inr, ℕ, ◌+◌, ◌≤◌, ◌<◌, zero, suc, nat_le, true, None, Some, Option, List, [], ◌∷◌, ◌++◌, map, refl, sym, ap, subst, arith, append-nil, append_assoc}
use Rattle.std.specs.Option.{option_map, option_to_list}
use Rattle.std.specs.List.{range_with_len}
use Rattle.std.proofs.lemmas.Bool.Decides.{nat_tests}
use Rattle.ota_core.specs.declared.cards.CardId.{CardId}
use Rattle.ota_core.specs.declared.entries.Entry.{Entry}
use Rattle.site_model.specs.Port.{PortState}
use Rattle.site_model.specs.declared.departures.Departure.{Departure}
use Rattle.world_core.specs.Condition.{IsAllowed}
use Rattle.world_core.specs.Effect.{piece_of}
use Rattle.world_core.specs.Headline.{IsReserved}
use Rattle.world_core.specs.MemberLaws.{In-left, In-from_flat_map}
use Rattle.world_core.specs.Members.{In}
use Rattle.world_core.specs.Packet.{Packet, packet_at, pieces_of}
use Rattle.world_core.specs.Run.{Runs}
use Rattle.world_core.specs.declared.lines.Line.{Line}
use Rattle.world_core.specs.declared.segments.Sent.{Sent}
use Rattle.lane_engine.specs.Departing.{AreReserved, leaving, pieces_at, pieces_from, pieces_if}
use Rattle.lane_engine.specs.Packets.{departure_at, departures_of}
use Rattle.lane_engine.specs.Sending.{IsCarried}
use Rattle.lane_engine.specs.World.{world_of, AreSent}

-- ---- each piece is of a reservation

in_pieces : (position : ℕ) (packet : Packet) (from count : ℕ) (piece : Sent) → In piece (map (λ (place : ℕ). piece_of position place packet) (range_with_len from count))
    → (place : ℕ) × (from ≤ place) × (place < from + count) × (piece ≡ piece_of position place packet)
in_pieces position packet from zero piece i = absurd i
in_pieces position packet from (suc count) piece i = elim i [
  | inl e ↦ (from, omega arith, omega arith, e)
  | inr later ↦ (let found = in_pieces position packet (from + 1) count piece later in
      (found.0, (let low = found.1 in omega (arith, low)), (let high = found.2 in omega (arith, high)), found.3))
]

if_reserved : (history : List Entry) (position : ℕ) (packet : Option Packet) → packet_at history position ≡ packet → AreReserved history (pieces_if position packet)
if_reserved history position None is piece i = absurd i
if_reserved history position (Some packet) is piece i =
    let found = in_pieces position packet 1 (pieces_of packet) piece i in
    let low : 1 ≤ found.0 = found.1 in
    let high : found.0 < 1 + pieces_of packet = found.2 in
    subst (IsReserved history) (sym found.3) (packet, is, refl, low, omega (arith, high))

pub at_reserved : (history : List Entry) (position : ℕ) → AreReserved history (pieces_at history position)
at_reserved history position = if_reserved history position (packet_at history position) refl

pub from_reserved : (history : List Entry) (position count : ℕ) → AreReserved history (pieces_from history position count)
from_reserved history position count piece i =
    let found = In-from_flat_map (pieces_at history) piece (range_with_len position count) i in
    at_reserved history found.0 piece found.2

pub first_reserved : (history : List Entry) (all first rest : List Sent) → all ≡ first ++ rest → AreReserved history all → AreReserved history first
first_reserved history all first rest is are piece i = are piece (subst (λ (l : List Sent). In piece l) (sym is) (In-left piece first rest i))

-- ---- what was handed over of a packet is its pieces

range_sent : (history : List Entry) (position : ℕ) (packet : Packet) (from count : ℕ) → packet_at history position ≡ Some packet → IsCarried packet
    → AreSent history (map (departure_at packet) (range_with_len from count)) (map (λ (place : ℕ). piece_of position place packet) (range_with_len from count))
range_sent history position packet from zero is carried = tt
range_sent history position packet from (suc count) is carried =
    (record { packet = packet; reserved = is; departs = refl; of_card = refl; carried = carried }, range_sent history position packet (from + 1) count is carried)

pub packet_sent : (history : List Entry) (position : ℕ) (packet : Packet) → packet_at history position ≡ Some packet → IsCarried packet
    → AreSent history (departures_of packet) (pieces_if position (Some packet))
packet_sent history position packet is carried = range_sent history position packet 1 (pieces_of packet) is carried

-- the pieces of the first departures
pub sent_split : (history : List Entry) (gone still : List Departure) (pieces : List Sent) → AreSent history (gone ++ still) pieces
    → (left : List Sent) × (later : List Sent) × (pieces ≡ left ++ later) × AreSent history gone left
sent_split history [] still pieces are = ([], pieces, refl, tt)
sent_split history (departure ∷ gone) still [] are = absurd are
sent_split history (departure ∷ gone) still (piece ∷ pieces) are =
    let rest = sent_split history gone still pieces are.1 in
    (piece ∷ rest.0, rest.1, ap (λ (l : List Sent). piece ∷ l) rest.2, (are.0, rest.3))

-- ---- they leave

same_piece : (piece : Sent) (packet : Packet) → piece.card ≡ packet.keyset.card → piece_of piece.reservation piece.place packet ≡ piece
same_piece piece packet card = ap (λ (c : CardId). (let s : Sent = record { card = c; reservation = piece.reservation; place = piece.place } in s)) (sym card)

may_leave : (history : List Entry) (port : PortState) (chosen : ℕ → List Line) (sent : List Sent) (given : List ℕ) (piece : Sent) → IsReserved history piece
    → IsAllowed (world_of history port chosen sent given) (leaving piece)
may_leave history port chosen sent given piece is =
    let low : 1 ≤ piece.place = is.3 in
    let high : piece.place ≤ pieces_of is.0 = is.4 in
    let first : nat_le 1 piece.place ≡ true = grind (arith, nat_tests, low) in
    let last : nat_le piece.place (pieces_of is.0) ≡ true = grind (arith, nat_tests, high) in
    rw (is.1, first, last) refl

sent_then : (history : List Entry) (sent : List Sent) (piece : Sent) → IsReserved history piece
    → sent ++ option_to_list (option_map (piece_of piece.reservation piece.place) (packet_at history piece.reservation)) ≡ sent ++ piece ∷ []
sent_then history sent piece is = rw is.1 (ap (λ (s : Sent). sent ++ s ∷ []) (same_piece piece is.0 is.2))

-- one after the other
pub leaves_run : (history : List Entry) (port : PortState) (chosen : ℕ → List Line) (given : List ℕ) (sent pieces : List Sent) → AreReserved history pieces
    → Runs (world_of history port chosen sent given) (map leaving pieces) (world_of history port chosen (sent ++ pieces) given)
leaves_run history port chosen given sent [] are = ap (λ (l : List Sent). world_of history port chosen l given) (append-nil sent)
leaves_run history port chosen given sent (piece ∷ pieces) are = (
  may_leave history port chosen sent given piece (are piece (inl refl)),
  subst (λ (l : List Sent). Runs (world_of history port chosen l given) (map leaving pieces) (world_of history port chosen (sent ++ piece ∷ pieces) given)) (sym (sent_then history sent piece (are piece (inl refl))))
      (subst (λ (l : List Sent). Runs (world_of history port chosen (sent ++ piece ∷ []) given) (map leaving pieces) (world_of history port chosen l given)) (append_assoc sent (piece ∷ []) pieces)
      (leaves_run history port chosen given (sent ++ piece ∷ []) pieces (λ other i. are other (inr i)))),
)
