-- What a card does with a message: the messages that it takes make packets, and each packet is answered by the first rule
-- that applies to it.
use Rattle.std.specs.Prelude.{◌≡◌, ◌⊎◌, ℕ, Bool, true, false, ◌<◌, ◌≤◌, Option, Some, None, is_some, List, [], Result, Ok, Err, Vec}
use Rattle.aes_modes.specs.KeyPair.{KeyPair}
use Rattle.arrayvec.specs.ArrayVec.{ArrayVec}
use Rattle.card_store.specs.Content.{Content}
use Rattle.card_store.specs.Replay.{Holds}
use Rattle.card_store.specs.Store.{StoreValue}
use Rattle.command_packet.specs.declared.opening.Command.{Command}
use Rattle.disk_model.specs.Counts.{Counts, HasRisen}
use Rattle.disk_model.specs.Disk.{Meaning}
use Rattle.ota_core.specs.declared.cards.CardFacts.{CardFacts}
use Rattle.sms_segments.specs.Assembled.{OfCard}
use Rattle.sms_segments.specs.Kept.{Keeps}
use Rattle.receiving_entity.specs.Answer.{octets_of, secured_answer, unsecured_answer}
use Rattle.receiving_entity.specs.Card.{CardValue, packet_by, past_with}
use Rattle.receiving_entity.specs.Taking.{at_step, HasAnswered, HasNoRoom, HasStopped}
use Rattle.receiving_entity.specs.Verdict.{verdict}
use Rattle.receiving_entity.specs.declared.card_errors.CardErr.{CardErr}
use Rattle.receiving_entity.specs.declared.card_errors.CardErr.TheVariants as card_err
use Rattle.receiving_entity.specs.declared.verdicts.Verdict.{Verdict}
use Rattle.receiving_entity.specs.declared.verdicts.Verdict.TheVariants.{Unsecured, Refused, Takes}

pub data Reaction : Type 0 where
  -- it gives these messages, and its store stays as it is
  Answers : List (List ℕ) → Reaction
  -- it takes this command, under these keys
  TakesCommand : KeyPair → Command → Reaction

abbrev pub reaction_to : Verdict → Reaction
reaction_to (Unsecured status tar counter) = Answers (unsecured_answer status tar counter)
reaction_to (Refused keys command status) = Answers (secured_answer keys command status [])
reaction_to (Takes keys command) = TakesCommand keys command

-- where no packet became whole nothing is answered
abbrev pub reaction_by : CardFacts → Content → Option (List ℕ) → Reaction
reaction_by facts content None = Answers []
reaction_by facts content (Some packet) = reaction_to (verdict facts content packet)

-- what a card with this content, which took these messages before, does with a message
abbrev pub reaction : CardFacts → Content → List OfCard → List ℕ → Reaction
reaction facts content past message = reaction_by facts content (packet_by facts past message)

-- At a moment of the call an image holds the card as it was, or, where a command is taken, with its counter and the first
-- commands of its script.
abbrev pub IsOnTheWay : CardFacts → Content → Reaction → List ℕ → Type 0
IsOnTheWay facts content (Answers messages) image = Holds facts content image
IsOnTheWay facts content (TakesCommand keys command) image = (steps : ℕ) × Holds facts (at_step facts content command steps) image

module _ {D B C : Type 0} (told : Meaning D B C) (old new : StoreValue D) (content : Content) where
  -- What the call answers, what it leaves of the store, and whether the card is off then. Want of memory is the one free
  -- answer: before the first device call it leaves the store as it was.
  abbrev pub Reacts : Reaction → Bool → Result (List (List ℕ)) CardErr → Type 0
  Reacts (Answers messages) false (Ok made) = (made ≡ messages) × (new ≡ old)
  Reacts (Answers messages) false (Err card_err.Memory) = new ≡ old
  Reacts (TakesCommand keys command) false (Ok made) = HasAnswered told old new content command keys made
  Reacts (TakesCommand keys command) false (Err card_err.Memory) = new ≡ old
  Reacts (TakesCommand keys command) false (Err (card_err.Full at need)) = HasNoRoom told old new content command at need × (new ≡ old)
  Reacts (TakesCommand keys command) true (Err card_err.Memory) = HasStopped told old new content command card_err.Memory
  Reacts (TakesCommand keys command) true (Err card_err.PowerCut) = HasStopped told old new content command card_err.PowerCut
  Reacts reaction off result = ⊥

-- the answer with the octets of its messages
abbrev pub octets_in : {A : Type 0} → Result (Vec (ArrayVec ℕ) A) CardErr → Result (List (List ℕ)) CardErr
octets_in (Ok messages) = Ok (octets_of messages.items)
octets_in (Err error) = Err error

-- What the card keeps of packets that aren't whole yet: what the messages left that it took, this one among them. Where
-- memory is wanting before the message makes a packet whole, that stays as it was. A card that is off has lost it.
abbrev pub KeepsAfter : {D T : Type 0} → CardFacts → List OfCard → List ℕ → CardValue D → Bool → Result T CardErr → Type 0
KeepsAfter facts past message new true result = Unit {0}
KeepsAfter facts past message new false (Err card_err.Memory) =
    Keeps 0x70 past new.kept.pieces ⊎ ((is_some (packet_by facts past message) ≡ true) × Keeps 0x70 (past_with facts past message) new.kept.pieces)
KeepsAfter facts past message new false result = Keeps 0x70 (past_with facts past message) new.kept.pieces

-- ---- causes

-- a power cut is a fault of the disk; where memory is wanting it is the card's own, or the disk's
abbrev pub CardErrCause : Counts → Counts → CardErr → Type 0
CardErrCause before now card_err.PowerCut = HasRisen before.faults now.faults
CardErrCause before now card_err.Memory = (now ≡ before) ⊎ HasRisen before.wants now.wants
CardErrCause before now error = now ≡ before

abbrev pub CardAnswerCause : {T : Type 0} → Counts → Counts → Result T CardErr → Type 0
CardAnswerCause before now (Ok value) = now ≡ before
CardAnswerCause before now (Err error) = CardErrCause before now error

-- No count of the disk falls, and a cause other than the card's own has raised its count.
pub record CardCause {T : Type 0} (before now : Counts) (result : Result T CardErr) : Type 0 where
  pub faults : before.faults ≤ now.faults
  pub wants : before.wants ≤ now.wants
  pub beside : now.beside ≡ before.beside
  pub answer : CardAnswerCause before now result

-- a device call was made, as the clock says, or found no memory
abbrev pub HasCalled : ℕ → ℕ → Counts → Counts → Type 0
HasCalled clock_before clock_now before now = (clock_before < clock_now) ⊎ HasRisen before.wants now.wants

-- the card isn't off
abbrev pub IsNotOff : CardErr → Type 0
IsNotOff card_err.Off = ⊥
IsNotOff error = Unit {0}
