-- What a card does with a packet. Which rule applies first, and with which status a card answers, is this product's own;
-- the status codes are those of ETSI TS 102 225, 5.2.2.
use Rattle.std.specs.Prelude.{ℕ, ◌+◌, nat_le, nat_lt, Bool, true, false, ◌==◌, ◌&&◌, ◌||◌, if◌then◌else◌, not, Option, Some, None, List, [], length}
use Rattle.std.specs.Str.{bytes_eq}
use Rattle.ota_core.specs.declared.cards.CardFacts.{CardFacts}
use Rattle.ota_core.specs.declared.cards.CardId.{CardId}
use Rattle.ota_core.specs.declared.keysets.KeysetFacts.{KeysetFacts}
use Rattle.ota_core.specs.declared.keysets.Mode.{Mode}
use Rattle.ota_core.specs.declared.keysets.Mode.TheVariants.{Higher, Next}
use Rattle.world_core.specs.Packet.{Packet}
use Rattle.world_core.specs.Card.{CardState, facts_under, stored_counter, line_status}
use Rattle.world_core.specs.declared.lines.Line.{Line}
use Rattle.world_core.specs.declared.answers.Made.{Made}
use Rattle.world_core.specs.declared.card_steps.CardStep.{CardStep}
use Rattle.world_core.specs.declared.card_steps.CardStep.TheVariants.{Drop, Answered, CutBeforeCounter, Took}

-- a counter is processed only if it is one higher
abbrev pub is_next : Mode → Bool
is_next Higher = false
is_next Next = true

-- the card has other keys than those of the packet, so that the checksum is wrong
abbrev pub is_other_key : KeysetFacts → KeysetFacts → Bool
is_other_key own opened = not (bytes_eq own.kid opened.kid) || (opened.ciphered && not (bytes_eq own.kic opened.kic))

-- the packet is less secure than the card's keyset asks
abbrev pub is_below_level : KeysetFacts → KeysetFacts → Bool
is_below_level own opened = (own.ciphered && not opened.ciphered) || (is_next own.mode && not (is_next opened.mode))

-- the status that a card gives a packet under a keyset of its own with this stored counter: by the first rule that applies
abbrev pub status_under : CardFacts → KeysetFacts → ℕ → Packet → ℕ
status_under facts own stored packet =
    if is_other_key own packet.opened then 0x01 else
    (if is_below_level own packet.opened then 0x0A else
    (if stored == 0xFF_FFFF_FFFF then 0x04 else
    (if nat_le packet.counter stored then 0x02 else
    (if is_next packet.opened.mode && nat_lt (stored + 1) packet.counter then 0x03 else
    line_status facts packet.tar packet.body))))

-- the status that a card with these facts of the packet's keyset gives the packet
abbrev pub status_with : CardState → Packet → KeysetFacts → ℕ
status_with card packet own = status_under card.facts own (stored_counter own.base packet.keyset card.log) packet

-- with these statuses the counter is used up, and a line is logged
abbrev pub is_taken : ℕ → Bool
is_taken status = (status == 0x00) || (status == 0x07) || (status == 0x09)

-- what a line with this status may say: with 00 anything, but a script that was cut off has no answer; else nothing ran
abbrev pub is_line_outcome : ℕ → ℕ → Bool → List ℕ → Bool → Bool
is_line_outcome status executed finished answer answered =
    if status == 0x00 then finished || (not answered && (length answer == 0)) else (executed == 0) && finished && (length answer == 0)

-- the step is one that a card may make with a packet that it gives this status
abbrev pub may_make : ℕ → CardStep → Bool
may_make status Drop = true
may_make status (Answered answered) = (answered == status) && not (is_taken status)
may_make status CutBeforeCounter = is_taken status
may_make status (Took executed finished took answer answered) =
    (took == status) && is_taken status && is_line_outcome status executed finished answer answered

-- a keyset that isn't among the issued ones may have been put on the card: with the facts of its Open, and base 0
abbrev pub put_facts : KeysetFacts → KeysetFacts
put_facts opened = record opened { base = 0 }

-- how a card may answer under a keyset that isn't among its issued ones: it lacks it, or it was put with other facts
abbrev pub is_answer_unissued : CardStep → Bool
is_answer_unissued (Answered status) = (status == 0x06) || (status == 0x01) || (status == 0x0A)
is_answer_unissued _ = false

-- the steps by the issued facts of the packet's keyset, or by none
abbrev pub may_make_with : CardState → Packet → CardStep → Option KeysetFacts → Bool
may_make_with card packet step (Some own) = may_make (status_with card packet own) step
may_make_with card packet step None = is_answer_unissued step || may_make (status_with card packet (put_facts packet.opened)) step

-- the step is one that the card may make with the packet
abbrev pub may_step : CardState → Packet → CardStep → Bool
may_step card packet step = may_make_with card packet step (facts_under packet.keyset.kvn card.facts.keysets)

-- the line that the step adds to the card's log
abbrev pub line_of : Packet → CardStep → Option Line
line_of packet (Took executed finished status answer answered) = Some (record {
  keyset = packet.keyset;
  counter = packet.counter;
  tar = packet.tar;
  body = packet.body;
  executed = executed;
  finished = finished;
  status = status;
  answer = answer;
})
line_of packet _ = None

-- an answer with this status is secured
abbrev pub is_secured : ℕ → Bool
is_secured status = not ((status == 0x01) || (status == 0x06))

-- the secured answer that the step makes
abbrev pub answer_of : CardId → Packet → CardStep → Option Made
answer_of card packet (Answered status) =
    if is_secured status then Some (record { card = card; keyset = packet.keyset; counter = packet.counter; status = status; answer = [] }) else None
answer_of card packet (Took executed finished status answer answered) =
    if answered then Some (record { card = card; keyset = packet.keyset; counter = packet.counter; status = status; answer = answer }) else None
answer_of card packet _ = None
