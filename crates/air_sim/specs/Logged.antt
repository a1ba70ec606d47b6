-- What the octets of a card's disk stand for.
use Rattle.std.specs.Prelude.{ℕ, Option, Some, None, List, []}
use Rattle.std.specs.Option.{option_map_or}
use Rattle.card_store.specs.Content.{Content, issued}
use Rattle.card_store.specs.Parts.{store_head}
use Rattle.card_store.specs.Replay.{replayed}
use Rattle.gate_log.specs.Reading.{Reading, parts_of}
use Rattle.gate_log.specs.Reading.Reading.{Unformatted, Opened}
use Rattle.ota_core.specs.declared.cards.CardFacts.{CardFacts}
use Rattle.world_core.specs.declared.lines.Line.{Line}

abbrev pub content_by : CardFacts → Reading → Option Content
content_by facts Unformatted = Some (issued facts)
content_by facts (Opened parts behind) = replayed facts parts
content_by facts reading = None

-- the card that the octets open to; a disk on which no store is made stands for the card as it was issued
abbrev pub content_in : CardFacts → List ℕ → Option Content
content_in facts octets = content_by facts (parts_of store_head octets)

-- the lines of that card's log; none, where the octets open to no card
abbrev pub logged : CardFacts → List ℕ → List Line
logged facts octets = option_map_or (λ content. content.log) (content_in facts octets) []
