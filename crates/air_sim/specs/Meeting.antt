-- How a card meets a message: one that is off is restarted first, and a power cut is armed just before the message is handed
-- over.
use Rattle.std.specs.Prelude.{◌≡◌, ◌⊎◌, ℕ, Bool, true, false, Option, Some, None, List, [], Result, Ok, Err}
use Rattle.card_store.specs.Content.{Content}
use Rattle.card_store.specs.Replay.{Holds}
use Rattle.card_store.specs.declared.store_errors.StoreErr.{StoreErr}
use Rattle.card_store.specs.declared.store_errors.StoreErr.TheVariants as store_err
use Rattle.disk_model.specs.Counts.{Counts}
use Rattle.disk_model.specs.Disk.{Meaning, Tells}
use Rattle.disk_model.specs.declared.faults.DiskFault.TheVariants as fault
use Rattle.ota_core.specs.declared.wants.Memory.{Memory}
use Rattle.receiving_entity.specs.Card.{CardValue, IsCard}
use Rattle.receiving_entity.specs.Opening.{IsIssued}
use Rattle.receiving_entity.specs.Receiving.{KeepsAfter, Reacts, reaction}
use Rattle.receiving_entity.specs.declared.card_errors.CardErr.{CardErr}
use Rattle.receiving_entity.specs.declared.card_errors.CardErr.TheVariants as card_err
use Rattle.sms_segments.specs.Assembled.{OfCard}
use Rattle.air_sim.specs.declared.schedules.Cut.{Cut}

-- What the port has of a card's answer: its messages; none after a power cut, or where the store is full; and no answer where
-- memory is wanting.
abbrev pub reply_of : Result (List (List ℕ)) CardErr → Option (List (List ℕ))
reply_of (Ok messages) = Some messages
reply_of (Err card_err.Memory) = None
reply_of (Err other) = Some []

-- a restart that is refused drops the message, unless memory is wanting
abbrev pub reply_of_refusal : StoreErr → Option (List (List ℕ))
reply_of_refusal store_err.Memory = None
reply_of_refusal (store_err.DiskFault fault.Memory) = None
reply_of_refusal other = Some []

-- what the port makes of a refusal: the card is off still, or memory is wanting
abbrev pub IsRefusedBy : StoreErr → Result Bool Memory → Type 0
IsRefusedBy error (Ok true) = ⊥
IsRefusedBy error (Ok false) = reply_of_refusal error ≡ Some []
IsRefusedBy error (Err want) = reply_of_refusal error ≡ None

module _ {D B C : Type 0} (told : Meaning D B C) where
  -- the card was restarted: it came back and is what its disk held, or the restart was refused and it is off
  abbrev pub Restarts : CardValue D → CardValue D → Result Bool Memory → Type 0
  Restarts card new (Ok true) = (new.off ≡ false) × (Tells told card.store.disk → IsIssued told (told.seen card.store.disk) new) × ((content : Content) × IsCard told new content [])
  Restarts card new (Ok false) = (new.off ≡ true) × (new.store.shown ≡ card.store.shown) × (refusal : StoreErr) × (reply_of_refusal refusal ≡ Some [])
  Restarts card new (Err want) = (new.off ≡ true) × (new.store.shown ≡ card.store.shown) × (refusal : StoreErr) × (reply_of_refusal refusal ≡ None)

module _ {D B C : Type 0} (told : Meaning D B C) (counts : D → Counts) where
  -- the card takes the message, and reacts as cards do
  pub record TakesMessage (card after : CardValue D) (message : List ℕ) (reply : Option (List (List ℕ))) : Type 0 where
    pub result : Result (List (List ℕ)) CardErr
    pub is : reply ≡ reply_of result
    pub reacts : (content : Content) (past : List OfCard) → IsCard told card content past → Reacts told card.store after.store content (reaction card.store.facts content past message) after.off result
    pub keeps : (content : Content) (past : List OfCard) → IsCard told card content past → KeepsAfter card.store.facts past message after after.off result
    pub facts : after.store.facts ≡ card.store.facts

  -- nothing is told of the card but that its disk may fail at a later call
  pub record IsArmed (card armed : CardValue D) : Type 0 where
    pub same : armed ≡ record card { store = record card.store { disk = armed.store.disk } }
    pub content : Tells told card.store.disk → told.seen armed.store.disk ≡ told.seen card.store.disk
    pub clock : Tells told card.store.disk → told.clock armed.store.disk ≡ told.clock card.store.disk
    pub counts_same : counts armed.store.disk ≡ counts card.store.disk

  abbrev pub IsArmedBy : Option Cut → CardValue D → CardValue D → Type 0
  IsArmedBy None card armed = armed ≡ card
  IsArmedBy (Some cut) card armed = IsArmed card armed

  -- the card isn't off
  pub record MeetsOn (card after : CardValue D) (message : List ℕ) (cut : Option Cut) (reply : Option (List (List ℕ))) : Type 0 where
    pub on : card.off ≡ false
    pub armed : CardValue D
    pub arms : IsArmedBy cut card armed
    pub takes : TakesMessage armed after message reply

  -- the card is off, and is what its disk holds after a restart
  pub record MeetsRestarted (card after : CardValue D) (message : List ℕ) (cut : Option Cut) (reply : Option (List (List ℕ))) : Type 0 where
    pub off : card.off ≡ true
    pub restarted : CardValue D
    pub issued : Tells told card.store.disk → IsIssued told (told.seen card.store.disk) restarted
    pub facts : restarted.store.facts ≡ card.store.facts
    pub meets : MeetsOn restarted after message cut reply

  -- it is off, and its restart was refused: it is off still, and takes no message
  pub record MeetsRefused (card after : CardValue D) (reply : Option (List (List ℕ))) : Type 0 where
    pub was_off : card.off ≡ true
    pub off : after.off ≡ true
    pub refusal : StoreErr
    pub is : reply ≡ reply_of_refusal refusal
    pub lent : after.store.shown ≡ card.store.shown
    pub facts : after.store.facts ≡ card.store.facts

  abbrev pub Meets : CardValue D → CardValue D → List ℕ → Option Cut → Option (List (List ℕ)) → Type 0
  Meets card after message cut reply = MeetsOn card after message cut reply ⊎ (MeetsRestarted card after message cut reply ⊎ MeetsRefused card after reply)
