-- How many messages a packet leaves in, by its reference.
use Rattle.std.specs.Prelude.{ℕ, Bool, true, false}
use Rattle.ota_core.specs.declared.references.Reference.{Reference}
use Rattle.ota_core.specs.declared.references.Reference.TheVariants.{Short, Wide}
use Rattle.world_core.specs.Packet.{pieces_of_length}

-- a reference of two octets
abbrev pub has_two_octets : Reference → Bool
has_two_octets (Short number) = false
has_two_octets (Wide number) = true

abbrev pub pieces_under : Reference → ℕ → ℕ
pieces_under reference octets = pieces_of_length octets (has_two_octets reference)
