-- How the journals of all lanes are opened, one after the other.
use Rattle.std.specs.Prelude.{◌≡◌, ◌⊎◌, ℕ, ◌<◌, ◌≤◌, None, List, length, slice_index_or}
use Rattle.disk_model.specs.Counts.{Counts}
use Rattle.disk_model.specs.Disk.{Meaning, Tells, DiskRun, image_now}
use Rattle.gate_log.specs.declared.log_errors.LogErr.{LogErr}
use Rattle.gate_log.specs.Reading.{parts_of}
use Rattle.gate_log.specs.Answers.{ErrCause, IsNotFull}
use Rattle.counter_journal.specs.JournalOpening.{IsBeforeOrOpened}
use Rattle.counter_journal.specs.Journal.{journal_head}
use Rattle.counter_journal.specs.JournalReading.{IsOpenedOf, JournalRefuses}
use Rattle.lane_session.specs.Run.{IsLaneReady}
use Rattle.lane_session.specs.declared.lanes.Lane.{Lane}
use Rattle.lane_session.specs.declared.opening.OpeningErr.{OpeningErr}
use Rattle.lane_session.specs.declared.opening.OpeningErr.TheVariants as opening_err

module _ {D B C : Type 0} (told : Meaning D B C) (counts : D → Counts) where
  -- a site whose journal was opened or refused: a stop at any moment leaves what stood before, or what opens alike
  pub record IsLooked (lane lanes : ℕ) (old new : D) : Type 0 where
    pub tells : told.tells new ≡ told.tells old
    pub moments : Tells told old → DiskRun told old new (IsBeforeOrOpened told old lane lanes)

  -- a lane whose journal was opened
  pub record IsOpenedSite (lane lanes : ℕ) (old new : D) (now : Lane) : Type 0 where
    pub goes_on : now.end ≡ None
    pub ready : IsLaneReady told counts lane lanes new now
    pub holds : Tells told old → IsOpenedOf lane lanes (told.seen old) now.journal
    pub looked : IsLooked lane lanes old new
    pub counted : counts new ≡ counts old

  -- the lanes below this number are opened, and the sites from it on are as they were
  pub record AreOpenedBelow (olds news : List D) (lanes : List Lane) (number : ℕ) : Type 0 where
    pub count : length lanes ≡ number
    pub same_sites : length news ≡ length olds
    pub each : (k : ℕ) (old new : D) (lane : Lane) → k < number
        → IsOpenedSite k (length olds) (slice_index_or olds k old) (slice_index_or news k new) (slice_index_or lanes k lane)
    pub untouched : (k : ℕ) (site : D) → number ≤ k → slice_index_or news k site ≡ slice_index_or olds k site

  -- the lane of this number refuses: those below it are opened, those above it are as they were
  pub record IsRefusedAt (olds news : List D) (number : ℕ) (error : LogErr) : Type 0 where
    pub within : number < length olds
    pub same_sites : length news ≡ length olds
    pub below : (k : ℕ) (old new : D) → k < number → (lane : Lane) × IsOpenedSite k (length olds) (slice_index_or olds k old) (slice_index_or news k new) lane
    pub looked : (old new : D) → IsLooked number (length olds) (slice_index_or olds number old) (slice_index_or news number new)
    pub refuses : (old : D) → Tells told (slice_index_or olds number old)
        → JournalRefuses number (length olds) (parts_of (journal_head number (length olds)) (told.seen (slice_index_or olds number old))) error
    pub cause : (old new : D) → ErrCause (counts (slice_index_or olds number old)) (counts (slice_index_or news number new)) error
    pub not_full : IsNotFull error
    pub untouched : (k : ℕ) (site : D) → number < k → slice_index_or news k site ≡ slice_index_or olds k site

  -- memory was wanting for the lanes themselves: some journals were opened
  pub record IsWanting (olds news : List D) : Type 0 where
    pub same_sites : length news ≡ length olds
    pub looked : (k : ℕ) (old new : D) → k < length olds → IsLooked k (length olds) (slice_index_or olds k old) (slice_index_or news k new)
    pub counted : (k : ℕ) (old new : D) → k < length olds → counts (slice_index_or news k new) ≡ counts (slice_index_or olds k old)

  -- why not all lanes were opened
  abbrev pub IsOpeningErr : List D → List D → OpeningErr → Type 0
  IsOpeningErr olds news opening_err.Memory = IsWanting olds news
  IsOpeningErr olds news (opening_err.Refused number error) = IsRefusedAt olds news number error
