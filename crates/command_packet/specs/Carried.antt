-- What a command packet carries, or the first refusal that applies. ETSI TS 102 225, 5.1.
use Rattle.std.specs.Prelude.{◌≡◌, ℕ, ◌+◌, ◌-◌, ◌/◌, ◌%◌, ◌==◌, ◌&&◌, ◌||◌, nat_le, Bool, not, if◌then◌else◌, Option, Some, None, Result, Ok, Err, List, ◌++◌, length, take, drop, slice_index}
use Rattle.std.specs.Str.{bytes_eq}
use Rattle.ota_core.specs.declared.security.Spi.{Spi}
use Rattle.ota_core.specs.Security.{read_spi_octets, read_key_octet}
use Rattle.aes_modes.specs.KeyPair.{KeyPair}
use Rattle.command_packet.specs.declared.opening.Command.{Command}
use Rattle.command_packet.specs.declared.opening.OpenErr.{OpenErr}
use Rattle.command_packet.specs.declared.opening.OpenErr.TheVariants.{Form, UnknownAlgorithm, CcWrong, Padding, Memory}
use Rattle.secured_packet.specs.Secured.{checksum_of, deciphered, number_of_two, number_of_five}

-- b3 of the first octet of SPI: ciphering
abbrev pub says_ciphered : ℕ → Bool
says_ciphered octet = octet / 4 % 2 == 1

-- at least 24 octets, of which CPL is the number less its own 2, CHL is 15, and what is ciphered is whole blocks
abbrev pub has_form : List ℕ → Bool
has_form packet =
    nat_le 24 (length packet) && (number_of_two (take 2 packet) == length packet - 2)
    && (slice_index packet 2 == 0x15)
    && (not (says_ciphered (slice_index packet 3)) || ((length packet - 10) % 16 == 0))

-- SPI and the key version number, where KIc and KID name one
abbrev pub security_by : Option Spi → Option ℕ → Option ℕ → Option (Spi × ℕ)
security_by (Some spi) (Some kic) (Some kid) = if kic == kid then Some (spi, kic) else None
security_by _ _ _ = None

abbrev pub security_in : List ℕ → Option (Spi × ℕ)
security_in packet =
    security_by (read_spi_octets (take 2 (drop 3 packet))) (read_key_octet (slice_index packet 5)) (read_key_octet (slice_index packet 6))

-- the key version number that the packet names
abbrev pub kvn_by : Option (Spi × ℕ) → Option ℕ
kvn_by (Some (spi, kvn)) = Some kvn
kvn_by None = None

abbrev pub kvn_in : List ℕ → Option ℕ
kvn_in packet = if has_form packet then kvn_by (security_in packet) else None

-- the packet as it was before ciphering: TAR ends at 10, CNTR at 15, PCNTR at 16 and CC at 24, where the text begins
abbrev pub plain_of : Bool → List ℕ → List ℕ → List ℕ
plain_of ciphered kic packet = take 10 packet ++ deciphered ciphered kic (drop 10 packet)

-- what CC is over: the packet as it was before ciphering, without CC itself
abbrev pub checked_of : List ℕ → List ℕ
checked_of plain = take 16 plain ++ drop 24 plain

-- CC is the one that belongs to the packet
abbrev pub is_authentic : List ℕ → List ℕ → Bool
is_authentic kid plain = bytes_eq (take 8 (drop 16 plain)) (checksum_of kid (checked_of plain))

-- the body is the text without its last PCNTR octets, whatever they hold
abbrev pub body_in : List ℕ → List ℕ
body_in checked = take (length (drop 16 checked) - slice_index checked 15) (drop 16 checked)

abbrev pub command_in : ℕ → Spi → List ℕ → Command
command_in kvn spi checked =
    record { kvn = kvn; spi = spi; tar = take 3 (drop 7 checked); counter = number_of_five (take 5 (drop 10 checked)); body = body_in checked }

-- there are as many octets of padding as PCNTR says
abbrev pub has_padding : List ℕ → Bool
has_padding checked = nat_le (slice_index checked 15) (length (drop 16 checked))

-- the fields of an authentic packet, where it has as many octets of padding as it says
abbrev pub carried_checked : ℕ → Spi → List ℕ → Result Command OpenErr
carried_checked kvn spi checked = if has_padding checked then Ok (command_in kvn spi checked) else Err Padding

abbrev pub carried_plain : List ℕ → ℕ → Spi → List ℕ → Result Command OpenErr
carried_plain kid kvn spi plain = if is_authentic kid plain then carried_checked kvn spi (checked_of plain) else Err CcWrong

abbrev pub carried_by : KeyPair → ℕ → List ℕ → Option (Spi × ℕ) → Result Command OpenErr
carried_by keys kvn packet None = Err UnknownAlgorithm
carried_by keys kvn packet (Some (spi, named)) =
    if named == kvn then carried_plain keys.kid kvn spi (plain_of spi.ciphered keys.kic packet) else Err UnknownAlgorithm

-- what the packet carries for the keyset with this key version number and these keys
unfoldable pub carries : KeyPair → ℕ → List ℕ → Result Command OpenErr
carries keys kvn packet = if has_form packet then carried_by keys kvn packet (security_in packet) else Err Form

-- memory is wanted only where a command is carried
abbrev pub MayWantMemory : Result Command OpenErr → Type 0
MayWantMemory (Ok command) = Unit {0}
MayWantMemory (Err refusal) = ⊥

-- an opening is answered by what is carried, unless memory is wanting
abbrev pub Answers : Result Command OpenErr → Result Command OpenErr → Type 0
Answers carried (Ok command) = carried ≡ Ok command
Answers carried (Err Memory) = MayWantMemory carried
Answers carried (Err refusal) = carried ≡ Err refusal
