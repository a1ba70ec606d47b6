-- The packet of a reservation, and the pieces in which it leaves.
use Rattle.std.specs.Prelude.{ℕ, ◌+◌, ◌-◌, ◌*◌, ◌/◌, nat_le, nat_lt, Bool, if◌then◌else◌, Option, Some, None, List, length, slice_get}
use Rattle.std.specs.Option.{option_map, option_and_then}
use Rattle.ota_core.specs.Keyset.{Keyset}
use Rattle.ota_core.specs.Entry.{Reservation, reserved_by}
use Rattle.ota_core.specs.Questions.{opened_facts}
use Rattle.ota_core.specs.declared.keysets.KeysetFacts.{KeysetFacts}
use Rattle.ota_core.specs.declared.entries.Entry.{Entry}
use Rattle.ota_core.specs.declared.entries.Entry.TheVariants.{Reserve}

-- what the packet of a reservation carries, and the facts with which its keyset was opened
pub record Packet : Type 0 where
  pub keyset : Keyset
  pub counter : ℕ
  pub tar : List ℕ
  pub body : List ℕ
  pub opened : KeysetFacts

-- the packet of an entry of the history, where that is a reservation
abbrev pub packet_of : List Entry → Entry → Option Packet
packet_of history (Reserve by moment keyset counter job tar name body) =
    option_map (λ facts. record { keyset = keyset; counter = counter; tar = tar; body = body; opened = facts }) (opened_facts keyset history)
packet_of history _ = None

-- the packet of the reservation at a position of the history
abbrev pub packet_at : List Entry → ℕ → Option Packet
packet_at history position = option_and_then (packet_of history) (slice_get history position)

-- the counter that is reserved at a position of the history
abbrev pub place_at : List Entry → ℕ → Option Reservation
place_at history position = option_and_then reserved_by (slice_get history position)

-- the octets of a command packet with a body of this length. A ciphered part is filled up to whole blocks of 16 octets
-- (ETSI TS 102 225, 5.1)
abbrev pub packet_length : Bool → ℕ → ℕ
packet_length ciphered body = if ciphered then 10 + 16 * ((14 + body + 15) / 16) else 24 + body

-- the messages that a packet of this length leaves in: one of 140 octets, or several whose first has room for 132 octets of
-- the packet, and each other for 134; with a reference of two octets the first has room for 131, and each other for 133
-- (3GPP TS 23.040, 9.2.3.24.1 and 9.2.3.24.8)
abbrev pub pieces_of_length : ℕ → Bool → ℕ
pieces_of_length octets wide =
    if nat_le octets 137 then 1 else (if wide then 1 + (octets - 131 + 132) / 133 else 1 + (octets - 132 + 133) / 134)

-- a body of more than 1,024 octets leaves under a reference of two octets
abbrev pub is_wide : Packet → Bool
is_wide packet = nat_lt 1024 (length packet.body)

-- the pieces of a packet
abbrev pub pieces_of : Packet → ℕ
pieces_of packet = pieces_of_length (packet_length packet.opened.ciphered (length packet.body)) (is_wide packet)
