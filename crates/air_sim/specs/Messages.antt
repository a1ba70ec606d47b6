-- The messages of the answers that the cards made.
use Rattle.std.specs.Prelude.{◌≡◌, ℕ, ◌+◌, ◌<◌, Option, Some, None, List, ◌++◌, length, map, Result, Ok, Err}
use Rattle.arrayvec.specs.ArrayVec.{ArrayVec}
use Rattle.ota_core.specs.declared.cards.CardId.{CardId}
use Rattle.ota_core.specs.declared.wants.Memory.{Memory}

abbrev pub Message : Type 0
Message = CardId × ArrayVec ℕ

-- the messages with their cards, and the position of the next that is to be given in order
pub record MessagesValue : Type 0 where
  pub items : List Message
  pub next : ℕ

-- the next is taken, where one is left
abbrev pub IsNextOf : MessagesValue → MessagesValue → Option ℕ → Type 0
IsNextOf old new (Some position) = (position ≡ old.next) × (old.next < length old.items) × (new ≡ record old { next = old.next + 1 })
IsNextOf old new None = (old.next ≡ length old.items) × (new ≡ old)

-- with these messages of a card behind them
abbrev pub with_answer : List Message → CardId → List (ArrayVec ℕ) → List Message
with_answer items card answer = items ++ map (λ message. (card, message)) answer

-- an answer joins as a whole, or memory is wanting
abbrev pub KeepsAnswer : MessagesValue → MessagesValue → CardId → List (ArrayVec ℕ) → Result (Unit {0}) Memory → Type 0
KeepsAnswer old new card answer (Ok done) = new ≡ record old { items = with_answer old.items card answer }
KeepsAnswer old new card answer (Err want) = new ≡ old
