-- What a journal holds: the history whose entries are the parts of its log, or why there is none.
use Rattle.std.specs.Prelude.{◌≡◌, ◌≢◌, ◌⊎◌, ℕ, ◌+◌, ◌<◌, ◌≤◌, None, List, [], ◌∷◌, ◌++◌, length, map, reverse, All, Result, Ok, Err}
use Rattle.disk_model.specs.Disk.{Meaning}
use Rattle.gate_log.specs.declared.log_errors.LogErr.{LogErr}
use Rattle.gate_log.specs.declared.log_errors.LogErr.TheVariants as log_err
use Rattle.gate_log.specs.Reading.{Reading, parts_of, OpensTo}
use Rattle.gate_log.specs.Reading.Reading.{Opened, Damaged}
use Rattle.gate_log.specs.Answers.{Refuses}
use Rattle.gate_log.specs.Opening.{IsOpenLog, LIMIT}
use Rattle.ota_core.specs.History.{broken}
use Rattle.ota_core.specs.declared.entries.Entry.{Entry}
use Rattle.keyset_book.specs.Book.{HasRoom}
use Rattle.keyset_book.specs.declared.books.Book.{Book}
use Rattle.counter_journal.specs.declared.versions.Version.{Version}
use Rattle.counter_journal.specs.declared.versions.Version.TheVariants.{First, Second}
use Rattle.counter_journal.specs.EntryOctets.{entry_octets, MARK, IsOfVersion}
use Rattle.counter_journal.specs.EntryRanges.{IsEntryOf, IsHistory}
use Rattle.counter_journal.specs.Journal.{journal_head}

-- the parts of a log that are these entries, all in one version
abbrev pub parts_in : Version → List Entry → List (List ℕ)
parts_in version entries = map (entry_octets version) entries

-- the parts of a batch of entries that are added: they are of version 2
abbrev pub parts_for : List Entry → List (List ℕ)
parts_for entries = parts_in Second entries

-- the parts are a front of the entries in version 1, the mark, and the rest of them in version 2
pub record AreMarked (entries : List Entry) (parts : List (List ℕ)) : Type 0 where
  pub front : List Entry
  pub rest : List Entry
  pub are : entries ≡ front ++ rest
  pub old : All (IsOfVersion First) front
  pub spelled : parts ≡ parts_in First front ++ MARK ∷ parts_in Second rest

-- The parts are these entries, and the next part is of this version: version 1 as long as the mark isn't among them.
abbrev pub AreWritten : Version → List Entry → List (List ℕ) → Type 0
AreWritten First entries parts = All (IsOfVersion First) entries × (parts ≡ parts_in First entries)
AreWritten Second entries parts = AreMarked entries parts

-- the octets are a journal of the lane that holds these entries, whatever lies behind the gate that ends its log
pub record Holds (lane lanes : ℕ) (entries : List Entry) (octets : List ℕ) : Type 0 where
  pub version : Version
  pub parts : List (List ℕ)
  pub written : AreWritten version entries parts
  pub opens : OpensTo (journal_head lane lanes) parts octets

-- what contracts see of a journal: its lane and the number of lanes, its entries, the length of its log in octets, for
-- how many more entries it has room, and the book of its entries
pub record JournalValue : Type 0 where
  pub lane : ℕ
  pub lanes : ℕ
  pub entries : List Entry
  pub length : ℕ
  pub room : ℕ
  pub book : Book

-- the journal has room for these entries, and its book the places that they fill
abbrev pub IsRoomy : JournalValue → List Entry → Type 0
IsRoomy journal entries = (length entries ≤ journal.room) × HasRoom journal.book entries

-- the part is the mark where none stands before it
abbrev pub IsFirstMark : Version → List ℕ → Type 0
IsFirstMark First part = part ≡ MARK
IsFirstMark Second part = ⊥

-- the part is neither the mark of version 2 where none stands before it, nor an entry of the lane, of the version that
-- is read, that may follow these
pub record IsBad (lane lanes : ℕ) (entries : List Entry) (version : Version) (part : List ℕ) : Type 0 where
  pub no_mark : ¬ IsFirstMark version part
  pub no_entry : (entry : Entry) → IsEntryOf lane lanes entry → IsOfVersion version entry → entry_octets version entry ≡ part → broken (reverse entries) entry ≢ None

-- the first parts are a history, and the one behind them, of that number from 1, is bad
pub record StopsAt (lane lanes : ℕ) (parts : List (List ℕ)) (number : ℕ) : Type 0 where
  pub entries : List Entry
  pub version : Version
  pub first : List (List ℕ)
  pub part : List ℕ
  pub rest : List (List ℕ)
  pub spelled : parts ≡ first ++ part ∷ rest
  pub written : AreWritten version entries first
  pub history : IsHistory lane lanes entries
  pub bad : IsBad lane lanes entries version part
  pub place : number ≡ length first + 1

-- these parts are read, up to the gate that ends the log or up to a batch that is damaged
abbrev pub ReadsTo : List (List ℕ) → Reading → Type 0
ReadsTo parts read = ((behind : List (ℕ)) × (read ≡ Opened parts behind)) ⊎ (read ≡ Damaged parts)

-- all parts are a history, and behind them a batch is damaged
pub record EndsDamaged (lane lanes : ℕ) (read : Reading) (number : ℕ) : Type 0 where
  pub entries : List Entry
  pub version : Version
  pub parts : List (List ℕ)
  pub damaged : read ≡ Damaged parts
  pub written : AreWritten version entries parts
  pub history : IsHistory lane lanes entries
  pub place : number ≡ length parts + 1

-- the number, from 1, of the first part that is wrong in any way
abbrev pub DamagedAt : ℕ → ℕ → Reading → ℕ → Type 0
DamagedAt lane lanes read number =
    ((parts : List (List ℕ)) × ReadsTo parts read × StopsAt lane lanes parts number) ⊎ EndsDamaged lane lanes read number

-- a refusal of octets that read so
abbrev pub JournalRefuses : ℕ → ℕ → Reading → LogErr → Type 0
JournalRefuses lane lanes read (log_err.Damaged number) = DamagedAt lane lanes read number
JournalRefuses lane lanes read error = Refuses read error

-- the journal that is opened holds what the octets hold
pub record IsOpenedOf (lane lanes : ℕ) (octets : List ℕ) (journal : JournalValue) : Type 0 where
  pub lane_is : journal.lane ≡ lane
  pub lanes_are : journal.lanes ≡ lanes
  pub history : IsHistory lane lanes journal.entries
  pub holds : Holds lane lanes journal.entries octets

-- the answer of an opening: a history or a refusal, by what the octets hold
abbrev pub OpeningAnswer : ℕ → ℕ → List ℕ → Result JournalValue LogErr → Type 0
OpeningAnswer lane lanes octets (Ok journal) = IsOpenedOf lane lanes octets journal
OpeningAnswer lane lanes octets (Err error) = JournalRefuses lane lanes (parts_of (journal_head lane lanes) octets) error

-- the octets that the mark of version 2 needs as a batch of its own: a length, the length of the part, the part, a gate
abbrev pub MARK_NEED : ℕ
MARK_NEED = 11

-- a journal of this length goes on in version 2, or is of version 1 and has no room for the mark, nor for any entry
abbrev pub GoesOn : Version → ℕ → Type 0
GoesOn First len = LIMIT < len + MARK_NEED
GoesOn Second len = Unit {0}

-- The disk is as an opening, or the last addition that answered Ok, left it: a stop leaves just what a read gives, and
-- that is the journal with nothing behind its gate.
pub record IsReady {D B C : Type 0} (told : Meaning D B C) (disk : D) (journal : JournalValue) : Type 0 where
  pub open_log : IsOpenLog told disk journal.length
  pub version : Version
  pub parts : List (List ℕ)
  pub written : AreWritten version journal.entries parts
  pub opens : parts_of (journal_head journal.lane journal.lanes) (told.seen disk) ≡ Opened parts []
  pub goes_on : GoesOn version journal.length

-- only the room of the journal is another, and the places of its book
pub record IsSameJournal (old new : JournalValue) : Type 0 where
  pub lane : new.lane ≡ old.lane
  pub lanes : new.lanes ≡ old.lanes
  pub entries : new.entries ≡ old.entries
  pub length : new.length ≡ old.length

-- an addition was refused for want of memory only where there was no room for it, and for want of room in the log
-- exactly by these two numbers
abbrev pub AddAnswer : JournalValue → List Entry → ℕ → Result (Unit {0}) LogErr → Type 0
AddAnswer journal entries need (Ok done) = journal.length + need ≤ LIMIT
AddAnswer journal entries need (Err log_err.Memory) = ¬ IsRoomy journal entries
AddAnswer journal entries need (Err (log_err.DiskFault fault)) = journal.length + need ≤ LIMIT
AddAnswer journal entries need (Err (log_err.Full at needed)) = (LIMIT < journal.length + need) × (at ≡ journal.length) × (needed ≡ need)
AddAnswer journal entries need (Err other) = ⊥

-- memory was there for the octets of the entries
abbrev pub UnlessWanting : Result (Unit {0}) LogErr → Type 0 → Type 0
UnlessWanting (Err log_err.Memory) P = Unit {0}
UnlessWanting result P = P

-- want of memory and want of room come before the first device call
abbrev pub IsBeforeCalls : LogErr → Type 0
IsBeforeCalls log_err.Memory = Unit {0}
IsBeforeCalls (log_err.Full length need) = Unit {0}
IsBeforeCalls error = ⊥
