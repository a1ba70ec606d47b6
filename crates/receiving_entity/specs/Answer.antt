-- What a card answers: the messages of a response packet. ETSI TS 102 225, 5.2; 3GPP TS 31.115, 4.4.
use Rattle.std.specs.Prelude.{ℕ, ◌%◌, false, List, length, map}
use Rattle.std.specs.List.{range_with_len}
use Rattle.aes_modes.specs.KeyPair.{KeyPair}
use Rattle.arrayvec.specs.ArrayVec.{ArrayVec}
use Rattle.command_packet.specs.declared.opening.Command.{Command}
use Rattle.ota_core.specs.declared.references.Reference.TheVariants.{Short}
use Rattle.response_packet.specs.Response.{plain_octets, response_octets}
use Rattle.sms_segments.specs.Cut.{piece_of, pieces_count}

-- the messages of a response packet, in order. Their reference is the low octet of the counter (own)
abbrev pub messages_of : List ℕ → ℕ → List (List ℕ)
messages_of packet counter = map (piece_of packet 0x71 (Short (counter % 256))) (range_with_len 1 (pieces_count (length packet) false))

-- in the unsecured form
abbrev pub unsecured_answer : ℕ → List ℕ → ℕ → List (List ℕ)
unsecured_answer status tar counter = messages_of (plain_octets tar counter status) counter

-- under the keys of the command's keyset, ciphered as its SPI asks, with these data
abbrev pub secured_answer : KeyPair → Command → ℕ → List ℕ → List (List ℕ)
secured_answer keys command status octets =
    messages_of (response_octets keys command.spi.answer_ciphered command.tar command.counter status octets) command.counter

-- the octets of messages
abbrev pub octets_of : List (ArrayVec ℕ) → List (List ℕ)
octets_of messages = map (λ message. message.items) messages
