-- How a card comes back: issued on a disk, or restarted.
use Rattle.std.specs.Prelude.{ℕ, List, [], Result, Ok, Err}
use Rattle.card_store.specs.Content.{Content}
use Rattle.card_store.specs.Parts.{store_head}
use Rattle.card_store.specs.Store.{IsLeft}
use Rattle.card_store.specs.Replay.{IsContentOf}
use Rattle.card_store.specs.declared.store_errors.StoreErr.{StoreErr}
use Rattle.disk_model.specs.Disk.{Meaning}
use Rattle.gate_log.specs.Reading.{parts_of}
use Rattle.receiving_entity.specs.Card.{CardValue, IsCard}

-- the card is the one that these octets stood for, and has taken no message yet
pub record IsIssued {D B C : Type 0} (told : Meaning D B C) (octets : List ℕ) (card : CardValue D) : Type 0 where
  pub content : Content
  pub stands : IsCard told card content []
  pub was : IsContentOf card.store.facts (parts_of store_head octets) content
  pub left : IsLeft octets (told.seen card.store.disk) card.store.length

-- the disk of an issued card, or the one that a refusal hands back
abbrev pub disk_in : {D : Type 0} → Result (CardValue D) (D × StoreErr) → D
disk_in (Ok card) = card.store.disk
disk_in (Err refusal) = refusal.0

abbrev pub error_in : {D : Type 0} → Result (CardValue D) (D × StoreErr) → Result (CardValue D) StoreErr
error_in (Ok card) = Ok card
error_in (Err refusal) = Err refusal.1
