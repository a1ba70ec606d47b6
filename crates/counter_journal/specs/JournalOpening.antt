-- What an opening makes of a disk: octets behind the gate are cut off, and a journal of version 1 gets the mark of version 2.
use Rattle.std.specs.Prelude.{◌≡◌, ◌⊎◌, ℕ, ◌+◌, ◌-◌, ◌<◌, ◌≤◌, Bool, true, false, List, [], ◌∷◌, ◌++◌, length, take}
use Rattle.disk_model.specs.Disk.{Meaning, Tells, image_now}
use Rattle.gate_log.specs.declared.log_errors.LogErr.{LogErr}
use Rattle.gate_log.specs.declared.log_errors.LogErr.TheVariants as log_err
use Rattle.gate_log.specs.Append.{opened_with}
use Rattle.gate_log.specs.Reading.{Reading, parts_of, OpensTo}
use Rattle.gate_log.specs.Reading.Reading.{Opened}
use Rattle.gate_log.specs.Opening.{OpensAlike, IsOpenLog, LIMIT}
use Rattle.ota_core.specs.declared.entries.Entry.{Entry}
use Rattle.counter_journal.specs.declared.versions.Version.{Version}
use Rattle.counter_journal.specs.declared.versions.Version.TheVariants.{First, Second}
use Rattle.counter_journal.specs.EntryOctets.{MARK}
use Rattle.counter_journal.specs.EntryRanges.{IsHistory}
use Rattle.counter_journal.specs.Journal.{journal_head}
use Rattle.counter_journal.specs.JournalReading.{AreWritten, JournalValue, MARK_NEED}

-- the image opens to the parts to which the octets open, which are a history in version 1, and the mark behind them
pub record IsTakenOver (lane lanes : ℕ) (octets image : List ℕ) : Type 0 where
  pub entries : List Entry
  pub parts : List (List ℕ)
  pub history : IsHistory lane lanes entries
  pub written : AreWritten First entries parts
  pub was : OpensTo (journal_head lane lanes) parts octets
  pub is : OpensTo (journal_head lane lanes) (parts ++ MARK ∷ []) image

-- At a moment of an opening: what stood before, or what opens to the parts that are read, or, where these are of
-- version 1, to them and the mark of version 2.
abbrev pub IsBeforeOrOpened : {D B C : Type 0} (told : Meaning D B C) → D → ℕ → ℕ → List ℕ → Type 0
IsBeforeOrOpened told old lane lanes image =
    image_now told old image ⊎ OpensAlike (journal_head lane lanes) (told.seen old) image ⊎ IsTakenOver lane lanes (told.seen old) image

-- the mark as a batch of its own, with a closed gate behind it
abbrev pub MARK_BATCH : List ℕ
MARK_BATCH = 0x00 ∷ 0x00 ∷ 0x00 ∷ 0x06 ∷ 0x00 ∷ 0x00 ∷ 0x00 ∷ 0x02 ∷ 0x06 ∷ 0x02 ∷ 0x00 ∷ []

-- What lay behind the gate is cut off, and what is left has this length. A journal of version 1 gets the mark where
-- there is room for it.
abbrev pub IsLeft : Version → List ℕ → List ℕ → ℕ → Type 0
IsLeft First old new len =
    ((LIMIT < len + MARK_NEED) × (new ≡ take len old))
    ⊎ ((at : ℕ) × (len ≡ at + MARK_NEED) × (len ≤ LIMIT) × (new ≡ opened_with (take at old) MARK_BATCH))
IsLeft Second old new len = new ≡ take len old

-- the octets that an opened journal leaves, by the version in which its parts end
pub record IsOpenedTo (old new : List ℕ) (journal : JournalValue) : Type 0 where
  pub version : Version
  pub parts : List (List ℕ)
  pub written : AreWritten version journal.entries parts
  pub opens : OpensTo (journal_head journal.lane journal.lanes) parts old
  pub left : IsLeft version old new journal.length

-- What lies behind the gate that ends a log is cut off. Octets of which a batch is damaged stay.
abbrev pub IsEndCut : Reading → List ℕ → List ℕ → Type 0
IsEndCut (Opened parts behind) old new = new ≡ take (length old - length behind) old
IsEndCut read old new = new ≡ old

-- What a refusal leaves: where an entry is wrong, the octets up to the gate that ends the log, and else all of them. After
-- a fault of the disk its moments say it.
abbrev pub IsLeftRefused : List ℕ → List ℕ → List ℕ → LogErr → Type 0
IsLeftRefused head old new (log_err.DiskFault fault) = Unit {0}
IsLeftRefused head old new (log_err.Damaged number) = IsEndCut (parts_of head old) old new
IsLeftRefused head old new error = new ≡ old

-- A log goes on in version 2. Where its parts are of version 1 the mark is added, unless there is no room for it.
pub record IsMarkAdded {D B C : Type 0} (told : Meaning D B C) (old new : D) (len now : ℕ) : Type 0 where
  pub longer : now ≡ len + MARK_NEED
  pub within : now ≤ LIMIT
  pub clock : Tells told old → told.clock new ≡ told.clock old + 4
  pub open_log : Tells told old → IsOpenLog told new now
  pub content : Tells told old → told.seen new ≡ opened_with (told.seen old) MARK_BATCH
  pub opens : Tells told old → (head : List ℕ) (parts : List (List ℕ)) → parts_of head (told.seen old) ≡ Opened parts []
      → parts_of head (told.seen new) ≡ Opened (parts ++ MARK ∷ []) []

abbrev pub IsGoingOn : {D B C : Type 0} (told : Meaning D B C) → D → D → Version → ℕ → ℕ → Type 0
IsGoingOn told old new First len now = ((LIMIT < len + MARK_NEED) × (new ≡ old) × (now ≡ len)) ⊎ IsMarkAdded told old new len now
IsGoingOn told old new Second len now = (new ≡ old) × (now ≡ len)

-- the disk answered a fault
abbrev pub IsFault : LogErr → Type 0
IsFault (log_err.DiskFault fault) = Unit {0}
IsFault error = ⊥

-- a log has no room for a batch
abbrev pub is_full : LogErr → Bool
is_full (log_err.Full size need) = true
is_full error = false
