-- What holds of all command packets. ETSI TS 102 225, 5.1.
use Rattle.std.specs.Prelude.{◌≡◌, ℕ, ◌^◌, ◌<◌, ◌≤◌, Some, Ok, List, length}
use Rattle.ota_core.specs.declared.security.Spi.{Spi}
use Rattle.aes_modes.specs.KeyPair.{KeyPair}
use Rattle.command_packet.specs.declared.opening.Command.{Command}
use Rattle.aes_modes.specs.Modes.{AreOctets}
use Rattle.command_packet.specs.Command.{command_octets, packet_length}
use Rattle.command_packet.specs.Carried.{carries, kvn_in}

-- what a packet carries is for the key version number that its octets name
abbrev pub NamesItsKeyset : Type 0
NamesItsKeyset = (keys : KeyPair) (kvn : ℕ) (packet : List ℕ) (command : Command)
    → carries keys kvn packet ≡ Ok command → (kvn_in packet ≡ Some kvn) × (command.kvn ≡ kvn)

-- a packet that carries a command for two key version numbers, under whatever keys, carries it for one
abbrev pub NamesOneKeyset : Type 0
NamesOneKeyset = (keys other_keys : KeyPair) (kvn other_kvn : ℕ) (packet : List ℕ) (command other_command : Command)
    → carries keys kvn packet ≡ Ok command → carries other_keys other_kvn packet ≡ Ok other_command → kvn ≡ other_kvn

-- a packet has as many octets as `packet_length` says
abbrev pub HasPacketLength : Type 0
HasPacketLength = (keys : KeyPair) (kvn : ℕ) (spi : Spi) (tar : List ℕ) (counter : ℕ) (body : List ℕ)
    → length tar ≡ 3 → length (command_octets keys kvn spi tar counter body) ≡ packet_length spi.ciphered (length body)

-- a packet carries what it is built from, whether or not a program built it
abbrev pub CarriesWhatIsBuilt : Type 0
CarriesWhatIsBuilt = (keys : KeyPair) (kvn : ℕ) (spi : Spi) (tar : List ℕ) (counter : ℕ) (body : List ℕ)
    → 1 ≤ kvn → kvn ≤ 15 → length tar ≡ 3 → counter < 2 ^ 40 → length body ≤ 4096 → AreOctets body
    → carries keys kvn (command_octets keys kvn spi tar counter body) ≡ Ok (record { kvn = kvn; spi = spi; tar = tar; counter = counter; body = body })
