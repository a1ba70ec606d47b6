-- A card: its facts, and the log of the counters that it used up.
use Rattle.std.specs.Prelude.{◌≡◌, ◌≢◌, ℕ, ◌<◌, nat_le, Bool, true, false, ◌==◌, ◌||◌, if◌then◌else◌, not, Option, Some, None, unwrap_or, List, [], ◌∷◌, ◌++◌, length, reverse, find}
use Rattle.std.specs.Option.{option_map}
use Rattle.std.specs.Str.{bytes_eq}
use Rattle.ota_core.specs.Keyset.{Keyset, is_same_keyset}
use Rattle.ota_core.specs.History.{first_some}
use Rattle.ota_core.specs.declared.cards.CardId.{CardId}
use Rattle.ota_core.specs.declared.cards.CardFacts.{CardFacts}
use Rattle.ota_core.specs.declared.keysets.KeysetFacts.{KeysetFacts}
use Rattle.world_core.specs.Members.{In}
use Rattle.world_core.specs.declared.lines.Line.{Line}

pub record CardState : Type 0 where
  pub facts : CardFacts
  pub log : List Line

abbrev pub is_card : CardId → CardState → Bool
is_card card state = state.facts.card.0 == card.0

-- the card with this number
abbrev pub find_card : CardId → List CardState → Option CardState
find_card card cards = find (is_card card) cards

-- the log of a card, empty where the card isn't there
abbrev pub log_of : List CardState → CardId → List Line
log_of cards card = unwrap_or (option_map (λ state. state.log) (find_card card cards)) []

-- the card's log is longer by these lines
abbrev pub logged : List CardState → CardId → List Line → List CardState
logged [] card lines = []
logged (state ∷ states) card lines =
    if is_card card state then record { facts = state.facts; log = state.log ++ lines } ∷ states else (state ∷ logged states card lines)

-- the counter that a line used up of the keyset
abbrev pub counter_of : Keyset → Line → Option ℕ
counter_of keyset line = if is_same_keyset line.keyset keyset then Some line.counter else None

-- the counter that the card has stored for the keyset: that of the last line, or the base
abbrev pub stored_counter : ℕ → Keyset → List Line → ℕ
stored_counter base keyset log = unwrap_or (first_some (counter_of keyset) (reverse log)) base

-- the facts of a key version number
abbrev pub facts_under : ℕ → List (ℕ × KeysetFacts) → Option KeysetFacts
facts_under kvn keysets = option_map (λ keyset. keyset.1) (find (λ keyset. keyset.0 == kvn) keysets)

-- the counter that a card has stored before the first packet: the base of the issued keyset, and 0 of one that was put
abbrev pub base_of : CardFacts → Keyset → ℕ
base_of facts keyset = unwrap_or (option_map (λ own. own.base) (facts_under keyset.kvn facts.keysets)) 0

-- the status of a line: 09 where no application of the card has its reference, 07 where the body is longer than the card's
-- buffer, else 00 (ETSI TS 102 225, 5.2.2)
abbrev pub line_status : CardFacts → List ℕ → List ℕ → ℕ
line_status facts tar body =
    if not (bytes_eq tar facts.rfm || bytes_eq tar facts.ram) then 0x09 else (if nat_le (length body) facts.buffer then 0x00 else 0x07)

-- within each keyset the counters of the lines rise. The newest line stands first
abbrev pub IsRisingPast : List Line → Type 0
IsRisingPast [] = Unit {0}
IsRisingPast (line ∷ older) = ((other : Line) → In other older → other.keyset ≡ line.keyset → other.counter < line.counter) × IsRisingPast older

abbrev pub IsRising : List Line → Type 0
IsRising log = IsRisingPast (reverse log)

-- what a line of a card says: it is of a keyset of the card and above its base; its status is that of its reference and
-- its body; where that isn't 00, nothing ran; and only a script that came to its end has an answer
pub record IsLine (facts : CardFacts) (line : Line) : Type 0 where
  pub card : line.keyset.card ≡ facts.card
  pub above : base_of facts line.keyset < line.counter
  pub status : line.status ≡ line_status facts line.tar line.body
  pub unrun : line.status ≢ 0x00 → (line.executed ≡ 0) × (line.finished ≡ true) × (line.answer ≡ [])
  pub unfinished : line.finished ≡ false → line.answer ≡ []

-- a card's log
pub record IsCardState (state : CardState) : Type 0 where
  pub lines : (line : Line) → In line state.log → IsLine state.facts line
  pub rising : IsRising state.log
