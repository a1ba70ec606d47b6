-- The messages in which pieces go to the cards.
use Rattle.std.specs.Prelude.{ℕ, nat_le, ◌&&◌, if◌then◌else◌, Bool, Option, Some, None, List, length}
use Rattle.site_model.specs.declared.departures.Departure.{Departure}
use Rattle.sms_segments.specs.Cut.{longest, piece_of, pieces_count}
use Rattle.sms_segments.specs.Header.{is_wide_reference}

-- messages carry the packet: it has octets, and at most those of 255 messages; and the place is one of theirs
abbrev pub is_carried : Departure → Bool
is_carried piece =
    let wide = is_wide_reference piece.reference in let octets = length piece.packet in
    nat_le 1 octets && nat_le octets (longest wide) && nat_le 1 piece.place && nat_le piece.place (pieces_count octets wide)

-- the message of a piece (3GPP TS 23.040, 9.2.3.24; 3GPP TS 31.115, 4.2)
abbrev pub message_of : Departure → Option (List ℕ)
message_of piece = if is_carried piece then Some (piece_of piece.packet 0x70 piece.reference piece.place) else None
