-- What a card does with a packet. Which rule applies first is this product's own; the status codes are those of
-- ETSI TS 102 225, 5.2.2, and the fields those of 5.1.
use Rattle.std.specs.Prelude.{ℕ, ◌+◌, nat_le, nat_lt, Bool, not, ◌==◌, ◌&&◌, ◌||◌, if◌then◌else◌, Option, Some, None, Result, Ok, Err, List}
use Rattle.aes_modes.specs.KeyPair.{KeyPair}
use Rattle.card_store.specs.Content.{Content, keyset_of, stored}
use Rattle.command_packet.specs.Carried.{carries, kvn_in}
use Rattle.command_packet.specs.declared.opening.Command.{Command}
use Rattle.command_packet.specs.declared.opening.OpenErr.{OpenErr}
use Rattle.command_packet.specs.declared.opening.OpenErr.TheVariants.{CcWrong}
use Rattle.ota_core.specs.declared.cards.CardFacts.{CardFacts}
use Rattle.ota_core.specs.declared.keysets.KeysetFacts.{KeysetFacts}
use Rattle.ota_core.specs.declared.security.Spi.{Spi}
use Rattle.world_core.specs.Receiving.{is_next}
use Rattle.receiving_entity.specs.Fields.{counter_by, tar_in}
use Rattle.receiving_entity.specs.declared.verdicts.Verdict.{Verdict}
use Rattle.receiving_entity.specs.declared.verdicts.Verdict.TheVariants.{Unsecured, Refused, Takes}

-- the keys of a keyset
abbrev pub keys_of : KeysetFacts → KeyPair
keys_of own = record { kic = own.kic; kid = own.kid }

-- the packet is less secure than the keyset asks: it isn't ciphered and the keyset is, or its counter may be any higher one
-- and the keyset's is to be one higher
abbrev pub is_below_level : KeysetFacts → Spi → Bool
is_below_level own spi = (own.ciphered && not spi.ciphered) || (is_next own.mode && not (is_next spi.mode))

-- Why the counter of an authentic command isn't used up, where the keyset has this counter stored: 0A insufficient security
-- level, 04 counter blocked, 02 counter low, 03 counter high. The first that applies.
abbrev pub refusal_of : KeysetFacts → ℕ → Command → Option ℕ
refusal_of own stored command =
    if is_below_level own command.spi then Some 0x0A
    else (if stored == 0xFF_FFFF_FFFF then Some 0x04
    else (if nat_le command.counter stored then Some 0x02
    else (if is_next command.spi.mode && nat_lt (stored + 1) command.counter then Some 0x03
    else None)))

-- 06: unidentified security error
abbrev pub unidentified : List ℕ → Verdict
unidentified packet = Unsecured 0x06 (tar_in packet) 0

abbrev pub verdict_unless : KeyPair → Command → Option ℕ → Verdict
verdict_unless keys command (Some status) = Refused keys command status
verdict_unless keys command None = Takes keys command

-- by what the packet carries under the keyset: 01, where its cryptographic checksum is wrong
abbrev pub verdict_by : KeysetFacts → ℕ → List ℕ → Result Command OpenErr → Verdict
verdict_by own stored packet (Ok command) = verdict_unless (keys_of own) command (refusal_of own stored command)
verdict_by own stored packet (Err CcWrong) = Unsecured 0x01 (tar_in packet) (counter_by own.kic packet)
verdict_by own stored packet (Err refusal) = unidentified packet

-- under the keyset of the card with this key version number, if the card has it
abbrev pub verdict_under : CardFacts → Content → List ℕ → ℕ → Option KeysetFacts → Verdict
verdict_under facts content packet kvn None = unidentified packet
verdict_under facts content packet kvn (Some own) = verdict_by own (stored facts content kvn) packet (carries (keys_of own) kvn packet)

abbrev pub verdict_for : CardFacts → Content → List ℕ → Option ℕ → Verdict
verdict_for facts content packet None = unidentified packet
verdict_for facts content packet (Some kvn) = verdict_under facts content packet kvn (keyset_of facts content.card kvn)

-- what the card does with the packet: one of its own keysets, or one that was put, is the one that the packet names
abbrev pub verdict : CardFacts → Content → List ℕ → Verdict
verdict facts content packet = verdict_for facts content packet (kvn_in packet)
