-- The secured answers that cards make, and the messages that a site gives.
use Rattle.std.specs.Prelude.{ℕ, ◌+◌, ◌-◌, nat_le, Bool, true, false, not, ◌&&◌, if◌then◌else◌, Option, Some, None, unwrap_or, is_some, List, [], ◌∷◌, ◌++◌, length}
use Rattle.std.specs.Option.{option_map, option_and_then, option_map_or}
use Rattle.aes_modes.specs.KeyPair.{KeyPair}
use Rattle.card_store.specs.Content.{Content, issued, keyset_named}
use Rattle.command_packet.specs.declared.opening.Command.{Command}
use Rattle.disk_model.specs.Disk.{Meaning}
use Rattle.ota_core.specs.declared.cards.CardId.{CardId}
use Rattle.ota_core.specs.declared.cards.CardFacts.{CardFacts}
use Rattle.receiving_entity.specs.Card.{CardValue, is_passed_over, packet_of, to_card}
use Rattle.receiving_entity.specs.Verdict.{verdict}
use Rattle.receiving_entity.specs.declared.verdicts.Verdict.{Verdict}
use Rattle.receiving_entity.specs.declared.verdicts.Verdict.TheVariants.{Unsecured, Refused, Takes}
use Rattle.sms_segments.specs.Assembled.{OfCard, Pieces, if_whole, no_pieces, with_piece}
use Rattle.sms_segments.specs.Header.{header_of, octets_behind}
use Rattle.sms_segments.specs.Kept.{Kept, kept_in}
use Rattle.sms_segments.specs.declared.assembling.Push.{Push}
use Rattle.sms_segments.specs.declared.assembling.Push.TheVariants.{Whole, NotOurs}
use Rattle.sms_segments.specs.declared.concatenations.Concatenation.{Concatenation}
use Rattle.sms_segments.specs.declared.headers.Header.{Header}
use Rattle.sms_segments.specs.declared.headers.Header.TheVariants.{Only, Part}
use Rattle.world_core.specs.declared.answers.Made.{Made}
use Rattle.world_core.specs.declared.lines.Line.{Line}
use Rattle.air_sim.specs.Logged.{content_in, logged}

-- ---- the packet that a message makes whole with the pieces that the card keeps

abbrev pub push_by : (Concatenation → Pieces) → CardId → List ℕ → Option Header → Push
push_by kept card message None = NotOurs
push_by kept card message (Some Only) = Whole (octets_behind Only message)
push_by kept card message (Some (Part reference total place)) =
    if_whole total (with_piece place (octets_behind (Part reference total place) message) (kept (record { card = card; reference = reference; total = total })))

abbrev pub packet_with : (Concatenation → Pieces) → CardFacts → List ℕ → Option (List ℕ)
packet_with kept facts message = if is_passed_over facts message then None else packet_of (push_by kept facts.card message (header_of 0x70 message))

-- a card that is off has lost its pieces
abbrev pub kept_by : {D : Type 0} → CardValue D → Concatenation → Pieces
kept_by card of = if card.off then no_pieces else kept_in card.kept.pieces of

-- ---- the answer

abbrev pub last_of : {X : Type 0} → List X → Option X
last_of [] = None
last_of (x ∷ []) = Some x
last_of (x ∷ y ∷ xs) = last_of (y ∷ xs)

-- the answer of a finished line
abbrev pub made_of_line : CardFacts → Command → Line → List Made
made_of_line facts command line = record {
  card = facts.card;
  keyset = keyset_named facts command.kvn;
  counter = command.counter;
  status = line.status;
  answer = line.answer;
} ∷ []

-- by what the card does with the packet, and the lines that its disk holds afterwards
abbrev pub made_by_verdict : CardFacts → List Line → Verdict → List Made
made_by_verdict facts lines (Unsecured status tar counter) = []
made_by_verdict facts lines (Refused keys command status) =
    record { card = facts.card; keyset = keyset_named facts command.kvn; counter = command.counter; status = status; answer = [] } ∷ []
made_by_verdict facts lines (Takes keys command) = option_map_or (made_of_line facts command) (last_of lines) []

abbrev pub made_by_packet : CardFacts → List Line → Option Content → Option (List ℕ) → List Made
made_by_packet facts lines (Some content) (Some packet) = made_by_verdict facts lines (verdict facts content packet)
made_by_packet facts lines content packet = []

abbrev pub made_by_there : {D B C : Type 0} → Meaning D B C → CardValue D → CardValue D → List ℕ → List Made
made_by_there told before after message =
    let facts = before.store.facts in
    made_by_packet facts (logged facts (told.seen after.store.disk)) (content_in facts (told.seen before.store.disk)) (packet_with (kept_by before) facts message)

-- The secured answer that a card made which answered this message, from what it was before and what it is afterwards; none,
-- where it answered in the unsecured form. It is told where the card's disk tells.
abbrev pub made_by : {D B C : Type 0} → Meaning D B C → CardValue D → CardValue D → List ℕ → List Made
made_by told before after message = if told.tells after.store.disk then made_by_there told before after message else []
