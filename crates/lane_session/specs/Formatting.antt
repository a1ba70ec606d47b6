-- How the journals of all lanes are made, one after the other.
use Rattle.std.specs.Prelude.{◌≡◌, ℕ, ◌<◌, ◌≤◌, List, length, slice_index_or, Err}
use Rattle.disk_model.specs.Counts.{Counts}
use Rattle.disk_model.specs.Disk.{Meaning, Tells, DiskRun, image_now, Only}
use Rattle.gate_log.specs.declared.log_errors.LogErr.{LogErr}
use Rattle.gate_log.specs.Answers.{ErrCause}
use Rattle.gate_log.specs.Formatting.{FormatAnswer, IsFormatErr}
use Rattle.counter_journal.specs.Journal.{journal_head}
use Rattle.counter_journal.specs.JournalMaking.{IsJournalMade, IsBeforeOrNewJournal}
use Rattle.lane_session.specs.declared.opening.OpeningErr.{OpeningErr}
use Rattle.lane_session.specs.declared.opening.OpeningErr.TheVariants as opening_err

module _ {D B C : Type 0} (told : Meaning D B C) (counts : D → Counts) where
  -- a site on which the journal of its lane stands: it was made now, or before
  pub record IsFormattedSite (lane lanes : ℕ) (old new : D) : Type 0 where
    pub tells : told.tells new ≡ told.tells old
    pub made : Tells told old → IsJournalMade lane lanes (told.seen old) (told.seen new)
    pub only : Tells told old → Only (told.seen new) (image_now told new)
    pub moments : Tells told old → DiskRun told old new (IsBeforeOrNewJournal told old lane lanes)
    pub counted : counts new ≡ counts old

  -- on the sites below this number the journals stand, and those from it on are as they were
  pub record AreFormattedBelow (olds news : List D) (number : ℕ) : Type 0 where
    pub same_sites : length news ≡ length olds
    pub each : (k : ℕ) (old new : D) → k < number → IsFormattedSite k (length olds) (slice_index_or olds k old) (slice_index_or news k new)
    pub untouched : (k : ℕ) (site : D) → number ≤ k → slice_index_or news k site ≡ slice_index_or olds k site

  -- the site of this number refuses: on those below it the journals stand, and those above it are as they were
  pub record IsFormatRefusedAt (olds news : List D) (number : ℕ) (error : LogErr) : Type 0 where
    pub within : number < length olds
    pub same_sites : length news ≡ length olds
    pub below : (k : ℕ) (old new : D) → k < number → IsFormattedSite k (length olds) (slice_index_or olds k old) (slice_index_or news k new)
    pub tells : (old new : D) → told.tells (slice_index_or news number new) ≡ told.tells (slice_index_or olds number old)
    pub moments : (old new : D) → Tells told (slice_index_or olds number old)
        → DiskRun told (slice_index_or olds number old) (slice_index_or news number new) (IsBeforeOrNewJournal told (slice_index_or olds number old) number (length olds))
    pub answer : (old new : D) → Tells told (slice_index_or olds number old)
        → FormatAnswer (journal_head number (length olds)) (told.seen (slice_index_or olds number old)) (told.seen (slice_index_or news number new)) (Err error)
    pub err : IsFormatErr error
    pub cause : (old new : D) → ErrCause (counts (slice_index_or olds number old)) (counts (slice_index_or news number new)) error
    pub untouched : (k : ℕ) (site : D) → number < k → slice_index_or news k site ≡ slice_index_or olds k site

  -- Why the journals don't all stand. Making them takes no memory of its own.
  abbrev pub IsFormattingErr : List D → List D → OpeningErr → Type 0
  IsFormattingErr olds news opening_err.Memory = ⊥
  IsFormattingErr olds news (opening_err.Refused number error) = IsFormatRefusedAt olds news number error
