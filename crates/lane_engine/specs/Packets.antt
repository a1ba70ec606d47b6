-- The packet of a reservation in octets, and the pieces in which it leaves. ETSI TS 102 225, 5.1; 3GPP TS 23.040,
-- 9.2.3.24.1 and 9.2.3.24.8.
use Rattle.std.specs.Prelude.{ℕ, ◌%◌, if◌then◌else◌, List, [], map, Option, Some, None}
use Rattle.std.specs.List.{flat_map, range_with_len}
use Rattle.ota_core.specs.declared.entries.Entry.{Entry}
use Rattle.ota_core.specs.declared.keysets.KeysetFacts.{KeysetFacts}
use Rattle.ota_core.specs.declared.references.Reference.{Reference}
use Rattle.ota_core.specs.declared.references.Reference.TheVariants.{Short, Wide}
use Rattle.ota_core.specs.declared.security.Spi.{Spi}
use Rattle.aes_modes.specs.KeyPair.{KeyPair}
use Rattle.command_packet.specs.Command.{command_octets}
use Rattle.site_model.specs.declared.departures.Departure.{Departure}
use Rattle.world_core.specs.Packet.{Packet, packet_of, is_wide, pieces_of}

-- the keys of a keyset
abbrev pub keys_of : KeysetFacts → KeyPair
keys_of facts = record { kic = facts.kic; kid = facts.kid }

-- how its commands are secured. A ciphered command asks for a ciphered answer
abbrev pub spi_of : KeysetFacts → Spi
spi_of facts = record { ciphered = facts.ciphered; mode = facts.mode; answer_ciphered = facts.ciphered }

abbrev pub octets_of : Packet → List ℕ
octets_of packet = command_octets (keys_of packet.opened) packet.keyset.kvn (spi_of packet.opened) packet.tar packet.counter packet.body

-- the low octet of the counter, or its two low octets where the script has more than 1,024
abbrev pub reference_of : Packet → Reference
reference_of packet = if is_wide packet then Wide (packet.counter % 65536) else Short (packet.counter % 256)

-- the piece at a place, from 1, as it is handed to the port
abbrev pub departure_at : Packet → ℕ → Departure
departure_at packet place = record { card = packet.keyset.card; packet = octets_of packet; reference = reference_of packet; place = place }

-- all pieces of the packet, each once, in order
abbrev pub departures_of : Packet → List Departure
departures_of packet = map (departure_at packet) (range_with_len 1 (pieces_of packet))

abbrev pub departures_if : Option Packet → List Departure
departures_if None = []
departures_if (Some packet) = departures_of packet

-- all pieces of the packets that these entries of the history reserve, in order
abbrev pub departures_for : List Entry → List Entry → List Departure
departures_for history entries = flat_map (λ entry. departures_if (packet_of history entry)) entries
