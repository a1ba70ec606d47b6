-- How the history of a lane is read from the parts of its log.
use Rattle.std.specs.Prelude.{◌≡◌, ◌≢◌, ◌⊎◌, ℕ, ◌+◌, ◌%◌, Bool, true, false, ◌==◌, ◌&&◌, is_none, Option, Some, None, List, ◌∷◌, [], ◌++◌, length, take, reverse, Result, Ok, Err}
use Rattle.keyset_book.specs.Book.{StandsFor}
use Rattle.gate_log.specs.declared.log_errors.LogErr.{LogErr}
use Rattle.gate_log.specs.declared.log_errors.LogErr.TheVariants as log_err
use Rattle.gate_log.specs.Reading.{parts_of, OpensTo}
use Rattle.gate_log.specs.Reading.Reading.{Opened}
use Rattle.gate_log.specs.Readers.{ReaderState, IsReading}
use Rattle.ota_core.specs.Entry.{keyset_of}
use Rattle.ota_core.specs.History.{broken}
use Rattle.ota_core.specs.declared.entries.Entry.{Entry}
use Rattle.counter_journal.specs.declared.versions.Version.{Version}
use Rattle.counter_journal.specs.declared.versions.Version.TheVariants.{First, Second}
use Rattle.counter_journal.specs.declared.histories_read.Past.{Past}
use Rattle.counter_journal.specs.declared.openings.LogRead.{LogRead}
use Rattle.counter_journal.specs.declared.openings.OpenedLog.{OpenedLog}
use Rattle.counter_journal.specs.Journal.{journal_head}
use Rattle.counter_journal.specs.EntryOctets.{entry_octets, MARK, IsOfVersion}
use Rattle.counter_journal.specs.EntryRanges.{IsEntry, IsEntryOf, IsHistory}
use Rattle.counter_journal.specs.JournalReading.{AreWritten, IsFirstMark, IsBad, StopsAt, ReadsTo, JournalRefuses}

-- the part is this entry, or none
abbrev pub IsRead : Version → List ℕ → Option Entry → Type 0
IsRead version part (Some entry) = (entry_octets version entry ≡ part) × IsEntry entry × IsOfVersion version entry
IsRead version part None = (entry : Entry) → IsEntry entry → IsOfVersion version entry → entry_octets version entry ≢ part

-- the part is this entry of the lane, which may follow, or none such
abbrev pub IsNext : ℕ → ℕ → List Entry → Version → List ℕ → Option Entry → Type 0
IsNext lane lanes entries version part (Some entry) =
    (entry_octets version entry ≡ part) × IsEntryOf lane lanes entry × IsOfVersion version entry × (broken (reverse entries) entry ≡ None)
IsNext lane lanes entries version part None =
    (entry : Entry) → IsEntryOf lane lanes entry → IsOfVersion version entry → entry_octets version entry ≡ part → broken (reverse entries) entry ≢ None

-- the entry is of the lane, and may follow these
abbrev pub belongs : ℕ → ℕ → List Entry → Entry → Bool
belongs lane lanes entries entry = ((keyset_of entry).card.0 % lanes == lane) && is_none (broken (reverse entries) entry)

abbrev pub is_first : Version → Bool
is_first First = true
is_first Second = false

-- the part is the mark of version 2
abbrev pub is_mark : List ℕ → Bool
is_mark (first ∷ second ∷ []) = (first == 0x06) && (second == 0x02)
is_mark part = false

-- The part was taken, as an entry that may follow or as the mark where none stands before it, or it is bad and nothing
-- was taken.
abbrev pub IsTaken : ℕ → ℕ → Past → List ℕ → Bool → Past → Type 0
IsTaken lane lanes old part true new =
    (IsFirstMark old.version part × (new.history.entries ≡ old.history.entries) × (new.version ≡ Second))
    ⊎ ((entry : Entry) × IsNext lane lanes old.history.entries old.version part (Some entry) × (new.history.entries ≡ old.history.entries ++ entry ∷ []) × (new.version ≡ old.version))
IsTaken lane lanes old part false new = IsBad lane lanes old.history.entries old.version part × (new ≡ old)

-- version 2 begins, where it hadn't
abbrev pub IsMarkTaken : Past → Bool → Past → Type 0
IsMarkTaken old taken new = (taken ≡ is_first old.version) × (new.history ≡ old.history) × (new.book ≡ old.book) × (new.version ≡ Second)

-- the parts are the history that was read, with its book, in the version in which the next one is read
pub record IsPast (lane lanes : ℕ) (parts : List (List ℕ)) (past : Past) : Type 0 where
  pub written : AreWritten past.version past.history.entries parts
  pub history : IsHistory lane lanes past.history.entries
  pub book : StandsFor past.book past.history.entries

-- what was read is a history of the lane, with its book
pub record IsKeptPast (lane lanes : ℕ) (past : Past) : Type 0 where
  pub history : IsHistory lane lanes past.history.entries
  pub book : StandsFor past.book past.history.entries

-- the parts are the history that was read, or one of them, of that number from 1, is the first that is bad
abbrev pub IsReadSoFar : ℕ → ℕ → List (List ℕ) → Past → Option ℕ → Type 0
IsReadSoFar lane lanes parts past None = IsPast lane lanes parts past
IsReadSoFar lane lanes parts past (Some number) = StopsAt lane lanes parts number

-- all parts of the text were read, up to the gate that ends the log or up to a batch that is damaged
pub record IsReadThrough (head text : List ℕ) (lane lanes : ℕ) (reader : ReaderState) (read : LogRead) : Type 0 where
  pub parts : List (List ℕ)
  pub reading : IsReading head text parts reader
  pub all : ReadsTo parts (parts_of head text)
  pub so_far : IsReadSoFar lane lanes parts read.past read.wrong

-- a log was opened whose parts are the history that was read: what lay behind its gate is cut off
pub record IsReadAs (lane lanes : ℕ) (old new : List ℕ) (len : ℕ) (past : Past) : Type 0 where
  pub parts : List (List ℕ)
  pub past_is : IsPast lane lanes parts past
  pub was : OpensTo (journal_head lane lanes) parts old
  pub is : parts_of (journal_head lane lanes) new ≡ Opened parts []
  pub cut : new ≡ take len old
  pub long : len + length was.0 ≡ length old

-- the answer of the opening of a journal's log
abbrev pub PastAnswer : ℕ → ℕ → List ℕ → List ℕ → Result OpenedLog LogErr → Type 0
PastAnswer lane lanes old new (Ok opened) = IsReadAs lane lanes old new opened.log opened.past
PastAnswer lane lanes old new (Err error) = JournalRefuses lane lanes (parts_of (journal_head lane lanes) old) error

-- a part that is bad comes before the damaged batch behind it
abbrev pub first_wrong : LogErr → Option ℕ → LogErr
first_wrong (log_err.Damaged end) (Some number) = log_err.Damaged number
first_wrong error wrong = error

-- the log, unless one of its parts was bad
abbrev pub checked : Result ℕ LogErr → Option ℕ → Result ℕ LogErr
checked (Ok len) None = Ok len
checked (Ok len) (Some number) = Err (log_err.Damaged number)
checked (Err error) wrong = Err (first_wrong error wrong)
