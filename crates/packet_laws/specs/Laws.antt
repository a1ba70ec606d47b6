-- No octets are what the checksum of a command is over and what that of a response is over.
use Rattle.std.specs.Prelude.{◌≡◌, ◌≢◌, ℕ, true, Bool, List, ◌++◌}
use Rattle.ota_core.specs.declared.security.Spi.{Spi}
use Rattle.command_packet.specs.Command.{checked_octets as command_checked}
use Rattle.command_packet.specs.Carried.{has_form, checked_of as command_checked_of, plain_of as command_plain_of}
use Rattle.response_packet.specs.Response.{checked_octets, user_data_header}

-- of a command that is built and a response that is built
abbrev pub BuiltApart : Type 0
BuiltApart = (spi : Spi) (kvn : ℕ) (tar : List ℕ) (counter padding : ℕ) (text : List ℕ)
    (answer_tar : List ℕ) (answer_counter answer_padding status : ℕ) (answer_text : List ℕ)
    → command_checked spi kvn tar counter padding text ≢ checked_octets answer_tar answer_counter answer_padding status answer_text

-- of a command that is read, whatever it holds, and a response that is read
abbrev pub ReadApart : Type 0
ReadApart = (ciphered : Bool) (kic packet answer : List ℕ) → has_form packet ≡ true
    → command_checked_of (command_plain_of ciphered kic packet) ≢ user_data_header ++ answer
