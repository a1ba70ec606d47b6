-- When nobody forges on a site.
use Rattle.std.specs.Prelude.{◌≡◌, ◌⊎◌, ℕ, ◌≤◌, Ok, Some, List, ◌++◌}
use Rattle.disk_model.specs.Disk.{Meaning}
use Rattle.ota_core.specs.Questions.{opened_facts}
use Rattle.ota_core.specs.declared.cards.CardId.{CardId}
use Rattle.ota_core.specs.declared.cards.CardFacts.{CardFacts}
use Rattle.ota_core.specs.declared.entries.Entry.{Entry}
use Rattle.ota_core.specs.declared.keysets.KeysetFacts.{KeysetFacts}
use Rattle.command_packet.specs.Carried.{carries}
use Rattle.command_packet.specs.declared.opening.Command.{Command}
use Rattle.counter_journal.specs.Standing.{StandsFor}
use Rattle.site_model.specs.Port.{PortState}
use Rattle.site_model.specs.Cards.{IsFurther, port_at}
use Rattle.site_model.specs.declared.departures.Departure.{Departure}
use Rattle.sms_segments.specs.Assembled.{OfCard, assembled}
use Rattle.world_core.specs.Members.{In}
use Rattle.world_core.specs.declared.answers.Made.{Made}
use Rattle.world_core.specs.declared.lines.Line.{Line}
use Rattle.lane_engine.specs.Packets.{keys_of}
use Rattle.lane_engine.specs.Receipts.{RESPONSE, Response, response_at, past_of}

-- a packet that was sent to the line's card carries the line's counter, TAR and body, under the keys with which the
-- history opens its keyset
pub record IsBrought (history : List Entry) (sent : List Departure) (line : Line) : Type 0 where
  pub departure : Departure
  pub was_sent : In departure sent
  pub card : departure.card ≡ line.keyset.card
  pub facts : KeysetFacts
  pub opened : opened_facts line.keyset history ≡ Some facts
  pub command : Command
  pub carried : carries (keys_of facts) line.keyset.kvn departure.packet ≡ Ok command
  pub counter : line.counter ≡ command.counter
  pub tar : line.tar ≡ command.tar
  pub body : line.body ≡ command.body

-- the card made the response as an answer under that keyset
abbrev pub made_as : CardId → Response → Made
made_as card response = record {
  card = card;
  keyset = response.keyset;
  counter = response.answer.counter;
  status = response.answer.status;
  answer = response.answer.octets;
}

module _ {D B C : Type 0} (told : Meaning D B C) (port : B → PortState) (lines : C → ℕ → List Line) where
  -- a power cut at that moment may have left the line in the card's log, or left it earlier in its run
  abbrev pub Stood : D → ℕ → ℕ → Line → Type 0
  Stood site moment card line = (choice : C) × told.choice_at site moment choice × ((older : Line) × In older (lines choice card) × IsFurther older line)

  -- Since a moment each line that a card's log gained was brought by a packet sent to it, and each response assembled of
  -- the messages given since then that opens under a keyset of its card was made by that card under it. The keysets are
  -- those that the history opens for which the journal's image at that moment stands.
  pub record UnforgedSince (lane lanes from : ℕ) (site : D) : Type 0 where
    pub brought : (first moment : ℕ) → from ≤ first → first ≤ moment → moment ≤ told.clock site
        → (image : List ℕ) (history : List Entry) → told.image_at site moment image → StandsFor lane lanes history image
        → (choice : C) (card : CardFacts) (line : Line) → told.choice_at site moment choice → In card (port_at told port lines site moment).facts → In line (lines choice card.card.0)
        → Stood site first card.card.0 line ⊎ IsBrought history (port_at told port lines site moment).sent line
    pub answered : (moment : ℕ) → from ≤ moment → moment ≤ told.clock site
        → (image : List ℕ) (history : List Entry) → told.image_at site moment image → StandsFor lane lanes history image
        → (messages : List (CardId × List ℕ)) → (port_at told port lines site moment).given ≡ (port_at told port lines site from).given ++ messages
        → (packet : OfCard) (kvn : ℕ) (response : Response) → In packet (assembled RESPONSE (past_of messages)) → response_at history packet.card packet.octets kvn ≡ Some response
        → In (made_as packet.card response) (port_at told port lines site moment).made
