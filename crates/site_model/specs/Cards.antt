-- What the cards of a site keep while the port works.
use Rattle.std.specs.Prelude.{◌≡◌, ◌⊎◌, ℕ, ◌<◌, ◌≤◌, true, List, [], ◌∷◌, ◌++◌}
use Rattle.ota_core.specs.declared.cards.CardFacts.{CardFacts}
use Rattle.disk_model.specs.Disk.{Meaning}
use Rattle.world_core.specs.Members.{In, Begins}
use Rattle.world_core.specs.Card.{base_of, stored_counter, IsLine, IsCardState}
use Rattle.world_core.specs.declared.answers.Made.{Made}
use Rattle.world_core.specs.declared.lines.Line.{Line}
use Rattle.site_model.specs.Port.{PortState}

-- a line that the card may log behind these: its counter is above the one that the card has stored for its keyset
pub record MayFollow (facts : CardFacts) (before : List Line) (line : Line) : Type 0 where
  pub is_line : IsLine facts line
  pub above : stored_counter (base_of facts line.keyset) line.keyset before < line.counter

abbrev pub MayFollowAll : CardFacts → List Line → List Line → Type 0
MayFollowAll facts before [] = Unit {0}
MayFollowAll facts before (line ∷ lines) = MayFollow facts before line × MayFollowAll facts (before ++ line ∷ []) lines

-- lines that were logged before, and lines that the card may log behind them
abbrev pub Grows : CardFacts → List Line → List Line → Type 0
Grows facts before now = (more : List Line) × (now ≡ before ++ more) × MayFollowAll facts before more

-- the same line, or one that wasn't finished and ran further
pub record IsFurther (before now : Line) : Type 0 where
  pub keyset : now.keyset ≡ before.keyset
  pub counter : now.counter ≡ before.counter
  pub tar : now.tar ≡ before.tar
  pub body : now.body ≡ before.body
  pub status : now.status ≡ before.status
  pub executed : before.executed ≤ now.executed
  pub finished : before.finished ≡ true → now ≡ before

-- each line is there still, and may have run further
abbrev pub GoesOn : List Line → List Line → Type 0
GoesOn [] now = Unit {0}
GoesOn (line ∷ lines) [] = ⊥
GoesOn (line ∷ lines) (further ∷ now) = IsFurther line further × GoesOn lines now

-- the finished line of an answer
pub record IsLineOf (made : Made) (line : Line) : Type 0 where
  pub keyset : line.keyset ≡ made.keyset
  pub counter : line.counter ≡ made.counter
  pub finished : line.finished ≡ true
  pub status : line.status ≡ made.status
  pub answer : line.answer ≡ made.answer

-- the statuses of a packet whose counter the card used up (ETSI TS 102 225, 5.2.2)
abbrev pub IsTaken : ℕ → Type 0
IsTaken status = (status ≡ 0x00) ⊎ (status ≡ 0x07) ⊎ (status ≡ 0x09)

-- an answer of one of these cards, under a keyset of the same card
pub record IsOfCards (cards : List CardFacts) (made : Made) : Type 0 where
  pub card : CardFacts
  pub is_there : In card cards
  pub of_card : made.card ≡ card.card
  pub of_keyset : made.keyset.card ≡ card.card

module _ {D B C : Type 0} (told : Meaning D B C) (port : B → PortState) (lines : C → ℕ → List Line) where
  abbrev pub port_at : D → ℕ → PortState
  port_at site moment = port (told.beside_at site moment)

  abbrev pub port_now : D → PortState
  port_now site = port_at site (told.clock site)

  -- At each moment of a call of the port: what was sent, given and made grows, and no facts change. What the cards may
  -- have logged goes on from what they may have logged before, and an answer is made by one of the cards, once its line is
  -- logged.
  pub record Keeps (old new : D) : Type 0 where
    pub facts : (k : ℕ) → told.clock old ≤ k → k ≤ told.clock new → (port_at new k).facts ≡ (port_now old).facts
    pub sent : (k l : ℕ) → told.clock old ≤ k → k ≤ l → l ≤ told.clock new → Begins (port_at new k).sent (port_at new l).sent
    pub given : (k l : ℕ) → told.clock old ≤ k → k ≤ l → l ≤ told.clock new → Begins (port_at new k).given (port_at new l).given
    pub made : (k l : ℕ) → told.clock old ≤ k → k ≤ l → l ≤ told.clock new → Begins (port_at new k).made (port_at new l).made
    pub polls : (k l : ℕ) → told.clock old ≤ k → k ≤ l → l ≤ told.clock new → (port_at new k).polls ≤ (port_at new l).polls
    -- each list is one from before the call, and lines behind it
    pub grows : (k : ℕ) (now : C) → told.clock old ≤ k → k ≤ told.clock new → told.choice_at new k now
        → (before : C) × told.choice_at old (told.clock old) before × ((card : CardFacts) → In card (port_now old).facts → Grows card (lines before card.card.0) (lines now card.card.0))
    -- within the call too
    pub goes_on : (k l : ℕ) (now : C) → told.clock old ≤ k → k ≤ l → l ≤ told.clock new → told.choice_at new l now
        → (before : C) × told.choice_at new k before × ((card : ℕ) → GoesOn (lines before card) (lines now card))
    pub states : ((before : C) (card : CardFacts) → told.choice_at old (told.clock old) before → In card (port_now old).facts → IsCardState (record { facts = card; log = lines before card.card.0 }))
        → (k : ℕ) (now : C) (card : CardFacts) → told.clock old ≤ k → k ≤ told.clock new → told.choice_at new k now → In card (port_now old).facts
        → IsCardState (record { facts = card; log = lines now card.card.0 })
    pub answers : (k : ℕ) (made : Made) → told.clock old ≤ k → k ≤ told.clock new → In made (port_at new k).made
        → In made (port_now old).made ⊎ (IsOfCards (port_now old).facts made × (IsTaken made.status → (now : C) → told.choice_at new k now → (line : Line) × In line (lines now made.keyset.card.0) × IsLineOf made line))

  -- something may be chosen at that moment
  abbrev pub HasChoice : D → ℕ → Type 0
  HasChoice site moment = (choice : C) × told.choice_at site moment choice
