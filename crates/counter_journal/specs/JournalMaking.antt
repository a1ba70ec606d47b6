-- What making the journal of a lane leaves.
use Rattle.std.specs.Prelude.{◌≡◌, ◌⊎◌, ℕ, List, []}
use Rattle.disk_model.specs.Disk.{Meaning, image_now}
use Rattle.gate_log.specs.Reading.{parts_of}
use Rattle.gate_log.specs.Reading.Reading.{Unformatted}
use Rattle.gate_log.specs.Formatting.{IsMade}
use Rattle.counter_journal.specs.Journal.{journal_head}
use Rattle.counter_journal.specs.JournalReading.{Holds}

-- no journal of the lane is made yet
abbrev pub IsUnmade : ℕ → ℕ → List ℕ → Type 0
IsUnmade lane lanes octets = parts_of (journal_head lane lanes) octets ≡ Unformatted

-- where none was made a journal without entries stands, and one that was made is as it was
abbrev pub IsJournalMade : ℕ → ℕ → List ℕ → List ℕ → Type 0
IsJournalMade lane lanes old new =
    (IsUnmade lane lanes old × Holds lane lanes [] new) ⊎ (IsMade (parts_of (journal_head lane lanes) old) × (new ≡ old))

-- at a moment of the making: what stood before, or, where none was made, none yet or a journal without entries
abbrev pub IsBeforeOrNewJournal : {D B C : Type 0} (told : Meaning D B C) → D → ℕ → ℕ → List ℕ → Type 0
IsBeforeOrNewJournal told old lane lanes image =
    image_now told old image ⊎ (IsUnmade lane lanes (told.seen old) × (IsUnmade lane lanes image ⊎ Holds lane lanes [] image))
