-- Which history the octets of a lane's journal stand for.
use Rattle.std.specs.Prelude.{◌≡◌, ◌⊎◌, ℕ, List, []}
use Rattle.disk_model.specs.Disk.{Meaning, image_now}
use Rattle.ota_core.specs.declared.entries.Entry.{Entry}
use Rattle.counter_journal.specs.EntryRanges.{IsHistory}
use Rattle.counter_journal.specs.JournalMaking.{IsUnmade}
use Rattle.counter_journal.specs.JournalReading.{Holds}

-- the octets of a lane's journal stand for this history: the empty one where none is made yet, else the one that they hold
abbrev pub StandsFor : ℕ → ℕ → List Entry → List ℕ → Type 0
StandsFor lane lanes entries image = (IsUnmade lane lanes image × (entries ≡ [])) ⊎ (IsHistory lane lanes entries × Holds lane lanes entries image)

-- some image at the start stands for exactly the histories that this one stands for
pub record IsKept {D B C : Type 0} (told : Meaning D B C) (lane lanes : ℕ) (start : D) (image : List ℕ) : Type 0 where
  pub before : List ℕ
  pub at : image_now told start before
  pub stood : (entries : List Entry) → StandsFor lane lanes entries image → StandsFor lane lanes entries before
  pub stands : (entries : List Entry) → StandsFor lane lanes entries before → StandsFor lane lanes entries image
