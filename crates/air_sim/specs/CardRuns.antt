-- What a card's log is at each moment of a delivery, and where its answer stands in it.
use Rattle.std.specs.Prelude.{◌≡◌, ◌≤◌, ℕ, Bool, false, not, ◌==◌, Option, Some, None, List, [], length, map, Result, Ok, Err, Vec}
use Rattle.arrayvec.specs.ArrayVec.{ArrayVec}
use Rattle.card_store.specs.Content.{Content}
use Rattle.disk_model.specs.Disk.{Meaning, PastStands, Tells, image_now}
use Rattle.ota_core.specs.declared.cards.CardFacts.{CardFacts}
use Rattle.ota_core.specs.declared.wants.Memory.{Memory}
use Rattle.receiving_entity.specs.Answer.{octets_of}
use Rattle.receiving_entity.specs.Card.{CardValue}
use Rattle.sms_segments.specs.Assembled.{OfCard, pieces_after}
use Rattle.sms_segments.specs.declared.concatenations.Concatenation.{Concatenation}
use Rattle.site_model.specs.Cards.{Grows, IsLineOf, IsTaken}
use Rattle.world_core.specs.Members.{In}
use Rattle.world_core.specs.declared.answers.Made.{Made}
use Rattle.world_core.specs.declared.lines.Line.{Line}
use Rattle.air_sim.specs.Answers.{kept_by, made_by}
use Rattle.air_sim.specs.Logged.{content_in, logged}

module _ {D B C : Type 0} (told : Meaning D B C) (from to : CardValue D) where
  -- At each moment, the lines to which an image of the card's disk opens are those of one that a stop might have left at the
  -- start, and lines behind them that the card may log.
  pub record LogGrows : Type 0 where
    pub past : PastStands told from.store.disk to.store.disk
    pub facts : to.store.facts ≡ from.store.facts
    pub each : (k : ℕ) (image : List ℕ) → told.clock from.store.disk ≤ k → k ≤ told.clock to.store.disk → told.image_at to.store.disk k image
        → (start : List ℕ) × image_now told from.store.disk start × Grows from.store.facts (logged from.store.facts start) (logged from.store.facts image)

  -- a secured answer is of the card; and where the card took the command, its finished line stands in whatever a stop leaves
  pub record IsLogged (made : Made) : Type 0 where
    pub of_card : made.card ≡ from.store.facts.card
    pub of_keyset : made.keyset.card ≡ from.store.facts.card
    pub stands : IsTaken made.status → (image : List ℕ) → image_now told to.store.disk image → (line : Line) × In line (logged from.store.facts image) × IsLineOf made line

  abbrev pub AreLogged : List ℕ → Type 0
  AreLogged message = (made : Made) → In made (made_by told from to message) → IsLogged made

-- what the card was before it came back: its disk opened to this content then, and it kept what these messages left
pub record IsStill {D B C : Type 0} (told : Meaning D B C) (before card : CardValue D) (content : Content) (past : List OfCard) : Type 0 where
  pub facts : before.store.facts ≡ card.store.facts
  pub opens : content_in card.store.facts (told.seen before.store.disk) ≡ Some content
  pub kept : (of : Concatenation) → kept_by before of ≡ pieces_after 0x70 past of

-- the messages of an answer; None where memory was wanting
abbrev pub reply_in : {A : Type 0} → Result (Vec (ArrayVec ℕ) A) Memory → Option (List (List ℕ))
reply_in (Ok messages) = Some (octets_of messages.items)
reply_in (Err want) = None

-- whether there are any
abbrev pub is_answered : {A : Type 0} → Result (Vec (ArrayVec ℕ) A) Memory → Bool
is_answered (Ok messages) = not (length messages.items == 0)
is_answered (Err want) = false
