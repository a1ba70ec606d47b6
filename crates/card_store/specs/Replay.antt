-- What the parts of a card's store say: the card that they lead to, one after the other.
use Rattle.std.specs.Prelude.{◌≡◌, ◌⊎◌, ℕ, ◌+◌, if◌then◌else◌, Option, Some, None, List, [], ◌∷◌, ◌++◌, length}
use Rattle.std.specs.Option.{option_and_then}
use Rattle.gate_log.specs.Reading.{Reading, OpensTo}
use Rattle.gate_log.specs.Reading.Reading.{Unformatted, Damaged, Opened}
use Rattle.gate_log.specs.Readers.{IsReadTo}
use Rattle.ota_core.specs.declared.cards.CardFacts.{CardFacts}
use Rattle.card_store.specs.Content.{Content, issued, may_store, took, after_command}
use Rattle.card_store.specs.Parts.{store_head, StorePart, part_in}
use Rattle.card_store.specs.Parts.StorePart.{UsesCounter, RunsCommand}

-- the card behind what a part says; None where it can't follow
abbrev pub after_step : CardFacts → Content → StorePart → Option Content
after_step facts content (UsesCounter kvn counter tar body) =
    if may_store facts content kvn counter then Some (took facts content kvn counter tar body 0) else None
after_step facts content RunsCommand = after_command content

-- the card behind a part; None where the part is bad
unfoldable pub after_part : CardFacts → Content → List ℕ → Option Content
after_part facts content part = option_and_then (after_step facts content) (part_in part)

-- the card behind some parts, from this one on
abbrev pub replayed_from : CardFacts → Content → List (List ℕ) → Option Content
replayed_from facts content [] = Some content
replayed_from facts content (part ∷ parts) = option_and_then (λ next. replayed_from facts next parts) (after_part facts content part)

-- the card that a store of these parts stands for; None where one of them is bad
abbrev pub replayed : CardFacts → List (List ℕ) → Option Content
replayed facts parts = replayed_from facts (issued facts) parts

-- the octets are a store that stands for this card, whatever lies behind the gate that ends its log
pub record Holds (facts : CardFacts) (content : Content) (octets : List ℕ) : Type 0 where
  pub parts : List (List ℕ)
  pub opens : OpensTo store_head parts octets
  pub replays : replayed facts parts ≡ Some content

-- the first parts are those of a card, and the one behind them, of that number from 1, is bad
pub record StopsAt (facts : CardFacts) (parts : List (List ℕ)) (number : ℕ) : Type 0 where
  pub content : Content
  pub first : List (List ℕ)
  pub part : List ℕ
  pub rest : List (List ℕ)
  pub spelled : parts ≡ first ++ part ∷ rest
  pub replays : replayed facts first ≡ Some content
  pub bad : after_part facts content part ≡ None
  pub place : number ≡ length first + 1

-- all parts are those of a card, and behind them a batch is damaged
pub record EndsDamaged (facts : CardFacts) (read : Reading) (number : ℕ) : Type 0 where
  pub content : Content
  pub parts : List (List ℕ)
  pub damaged : read ≡ Damaged parts
  pub replays : replayed facts parts ≡ Some content
  pub place : number ≡ length parts + 1

-- the number, from 1, of the first part that is bad, or damaged
abbrev pub IsDamagedAt : CardFacts → Reading → ℕ → Type 0
IsDamagedAt facts read number = ((parts : List (List ℕ)) × IsReadTo parts read × StopsAt facts parts number) ⊎ EndsDamaged facts read number

-- the card that what was read stands for: a store that isn't made yet stands for the card as it was issued
abbrev pub IsContentOf : CardFacts → Reading → Content → Type 0
IsContentOf facts Unformatted content = content ≡ issued facts
IsContentOf facts (Opened parts behind) content = replayed facts parts ≡ Some content
IsContentOf facts read content = ⊥

-- this holds of the card behind the next command of its script
abbrev pub IsAfterCommand : Content → (Content → Type 0) → Type 0
IsAfterCommand content P = (next : Content) × (after_command content ≡ Some next) × P next

-- the octets are a store that stands for the card behind the next command
abbrev pub HoldsAfterCommand : CardFacts → Content → List ℕ → Type 0
HoldsAfterCommand facts content octets = IsAfterCommand content (λ next. Holds facts next octets)
