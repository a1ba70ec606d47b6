-- What a command does to one file. ETSI TS 102 221, 11.1; ETSI TS 102 222, 6.10 and 6.11.
--
-- Which case gives which status word is this card's own: 6981 for a file of another kind, 6982 for one
-- that may not be managed remotely, 6985 for one that is deactivated, in this order, and then the
-- command's own.
use Rattle.std.specs.Prelude.{Option, Some, None, true, false, ◌≡◌, ℕ, suc, ◌+◌, ◌-◌, ◌*◌, Bool, not, ◌==◌, ◌&&◌, ◌||◌, nat_lt, nat_le, nat_eq, if◌then◌else◌, List, [], ◌∷◌, length, take, drop, slice_index_or, slice_set, ok_or, Result, Ok, Err}
use Rattle.apdu_codec.specs.declared.refusal.Refusal.{Refusal}
use Rattle.apdu_codec.specs.declared.refusal.Refusal.TheVariants.{WrongLength, WrongKind, NotRemote, ConditionsNotMet, RecordNotFound, WrongOffset, GreatestReached}
use Rattle.apdu_codec.specs.Refusal.{◌>>=◌, ◌>>◌, only_if}
use Rattle.file_records.specs.Binary.{overwritten}
use Rattle.file_records.specs.Numbers.{numbers_with, sum_in}
use Rattle.file_records.specs.Rows.{Rows}
use Rattle.file_records.specs.declared.contents.Contents.{Contents}
use Rattle.file_records.specs.declared.contents.Contents.TheVariants.{Folder, Transparent, Linear, Cyclic}
use Rattle.file_records.specs.declared.file.File.{File}

abbrev pub is_folder : File → Bool
is_folder file = elim file.contents [ Folder ↦ true | Transparent _ ↦ false | Linear _ ↦ false | Cyclic _ ↦ false ]

-- the octets of a transparent EF
abbrev pub octets_held_in : Contents → Option (List ℕ)
octets_held_in (Transparent octets) = Some octets
octets_held_in _ = None

abbrev pub octets_held_by : File → Option (List ℕ)
octets_held_by file = octets_held_in file.contents

-- what a file takes of the card's room: the octets that an EF holds
abbrev pub size_in : Contents → ℕ
size_in Folder = 0
size_in (Transparent octets) = length octets
size_in (Linear records) = records.width * length records.rows
size_in (Cyclic records) = records.width * length records.rows

abbrev pub size_of : File → ℕ
size_of file = size_in file.contents

-- a file has become another one, of the same size, and is a folder as before or none
pub record Keeps (before after : File) : Type 0 where
  pub size : size_of after ≡ size_of before
  pub kind : is_folder after ≡ is_folder before

-- the file may be managed remotely, and is active
abbrev pub usable : File → Result (Unit {0}) Refusal
usable file = only_if file.remote NotRemote >> only_if file.active ConditionsNotMet

-- the octets of a transparent EF that may be used
abbrev pub octets_in : File → Contents → Result (List ℕ) Refusal
octets_in file (Transparent octets) = usable file >> Ok octets
octets_in file _ = Err WrongKind

abbrev pub octets_of : File → Result (List ℕ) Refusal
octets_of file = octets_in file file.contents

-- the records of a linear EF that may be used, of a cyclic one, or of either
abbrev pub linear_in : File → Contents → Result Rows Refusal
linear_in file (Linear records) = usable file >> Ok records
linear_in file _ = Err WrongKind

abbrev pub cyclic_in : File → Contents → Result Rows Refusal
cyclic_in file (Cyclic records) = usable file >> Ok records
cyclic_in file _ = Err WrongKind

abbrev pub records_in : File → Contents → Result Rows Refusal
records_in file (Linear records) = usable file >> Ok records
records_in file (Cyclic records) = usable file >> Ok records
records_in file _ = Err WrongKind

abbrev pub records_of : File → Result Rows Refusal
records_of file = records_in file file.contents

-- READ BINARY: the octets from an offset on, as many as are wanted; 0 wants all, at most 256
abbrev pub binary_read : File → ℕ → ℕ → Result (List ℕ) Refusal
binary_read file offset wanted = do
  octets ← octets_of file
  only_if (nat_lt offset (length octets)) WrongOffset
  only_if (nat_le (offset + wanted) (length octets)) WrongOffset
  Ok (take (if wanted == 0 then 256 else wanted) (drop offset octets))

-- UPDATE BINARY
abbrev pub binary_written : File → ℕ → List ℕ → Result File Refusal
binary_written file offset new = do
  octets ← octets_of file
  only_if (nat_le (offset + length new) (length octets)) WrongOffset
  Ok (record file { contents = Transparent (overwritten octets offset new) })

-- the number of one of these records, from 1
abbrev pub is_number_in : List (List ℕ) → ℕ → Bool
is_number_in rows number = nat_lt 0 number && nat_le number (length rows)

-- READ RECORD: one record, whole
abbrev pub record_read : File → ℕ → ℕ → Result (List ℕ) Refusal
record_read file number wanted = do
  records ← records_of file
  only_if (is_number_in records.rows number) RecordNotFound
  only_if (wanted == 0 || wanted == records.width) WrongLength
  Ok (slice_index_or records.rows (number - 1) [])

-- UPDATE RECORD of a linear EF
abbrev pub record_written : File → ℕ → List ℕ → Result File Refusal
record_written file number new = do
  records ← linear_in file file.contents
  only_if (is_number_in records.rows number) RecordNotFound
  only_if (length new == records.width) WrongLength
  Ok (record file { contents = Linear (record records { rows = slice_set records.rows (number - 1) new }) })

-- a new record 1 of a cyclic EF takes the place of the oldest, and all others move up by one
abbrev pub with_first : Rows → List ℕ → Rows
with_first records new = record records { rows = take (length records.rows) (new ∷ records.rows) }

-- UPDATE RECORD of a cyclic EF
abbrev pub record_pushed : File → List ℕ → Result File Refusal
record_pushed file new = do
  records ← cyclic_in file file.contents
  only_if (length new == records.width) WrongLength
  Ok (record file { contents = Cyclic (with_first records new) })

-- SEARCH RECORD: the numbers of records that begin with the pattern, from a number on
abbrev pub records_found : File → ℕ → List ℕ → Result (List ℕ) Refusal
records_found file from pattern = do
  records ← records_of file
  only_if (is_number_in records.rows from) RecordNotFound
  only_if (nat_le (length pattern) records.width) WrongLength
  let numbers = numbers_with pattern from (drop (from - 1) records.rows)
  only_if (nat_lt 0 (length numbers)) RecordNotFound
  Ok numbers

-- the records of a cyclic EF whose records can be increased: they have 3 to 16 octets
abbrev pub counters_in : File → Contents → Result Rows Refusal
counters_in file (Cyclic records) = only_if (nat_le 3 records.width && nat_le records.width 16) WrongKind >> (usable file >> Ok records)
counters_in file _ = Err WrongKind

-- INCREASE: record 1 plus a number, as a new record 1, and its octets
abbrev pub increased : File → ℕ → Result (File × List ℕ) Refusal
increased file by = do
  records ← counters_in file file.contents
  row ← ok_or (sum_in (slice_index_or records.rows 0 []) by) GreatestReached
  Ok (record file { contents = Cyclic (with_first records row) }, row)

-- ACTIVATE and DEACTIVATE
abbrev pub marked : Bool → File → Result File Refusal
marked active file = do
  only_if file.remote NotRemote
  only_if (if active then not file.active else file.active) ConditionsNotMet
  Ok (record file { active = active })
