-- What holds of a card's answers.
use Rattle.std.specs.Prelude.{◌≡◌, ℕ, false, unwrap_or, is_none}
use Rattle.command_packet.specs.declared.opening.Command.{Command}
use Rattle.ota_core.specs.declared.cards.CardFacts.{CardFacts}
use Rattle.ota_core.specs.declared.keysets.KeysetFacts.{KeysetFacts}
use Rattle.world_core.specs.Card.{line_status}
use Rattle.world_core.specs.Packet.{Packet}
use Rattle.world_core.specs.Receiving.{is_other_key, is_taken, status_under}
use Rattle.receiving_entity.specs.Verdict.{refusal_of}

-- the command is that of a reservation: it has its counter, its TAR and its body, and is secured as its keyset was opened
pub record IsReserved (packet : Packet) (command : Command) : Type 0 where
  pub counter : packet.counter ≡ command.counter
  pub tar : packet.tar ≡ command.tar
  pub body : packet.body ≡ command.body
  pub mode : packet.opened.mode ≡ command.spi.mode
  pub ciphered : packet.opened.ciphered ≡ command.spi.ciphered

-- A command of a reservation, which a card opened under keys of its own, gets the status that the table of cards gives the
-- reservation: the first rule that refuses it, else the status of its line.
abbrev pub AnsweredAsReserved : Type 0
AnsweredAsReserved = (facts : CardFacts) (own : KeysetFacts) (stored : ℕ) (packet : Packet) (command : Command)
    → IsReserved packet command → is_other_key own packet.opened ≡ false
    → status_under facts own stored packet ≡ unwrap_or (refusal_of own stored command) (line_status facts command.tar command.body)

-- a rule that refuses doesn't use the counter up, and the status of a line does
abbrev pub TakenUnlessRefused : Type 0
TakenUnlessRefused = (facts : CardFacts) (own : KeysetFacts) (stored : ℕ) (packet : Packet) (command : Command)
    → IsReserved packet command → is_other_key own packet.opened ≡ false
    → is_taken (status_under facts own stored packet) ≡ is_none (refusal_of own stored command)
