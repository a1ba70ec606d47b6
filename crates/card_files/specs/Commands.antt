-- The commands on the files of a card, each from the state, P1, P2, P3 and the data to the state after
-- it, the status word and the data that it gives. ETSI TS 102 221, 11.1; ETSI TS 102 222, 6.
--
-- P1 and P2 are tested first (6A86), then P3 (6700), and then what each command tests, in its order.
-- Which case gives which status word is this card's own. A refused command changes nothing.
use Rattle.std.specs.Prelude.{ℕ, ◌+◌, ◌*◌, ◌/◌, ◌%◌, Bool, true, false, not, ◌==◌, ◌&&◌, ◌||◌, nat_lt, nat_le, nat_eq, if◌then◌else◌, Option, Some, None, option_and_then, ok_or, is_some, List, [], ◌∷◌, ◌++◌, length, replicate, slice_index, Result, Ok}
use Rattle.std.specs.List.{starts_with, list_all}
use Rattle.std.specs.FinMap as map
use Rattle.apdu_codec.specs.declared.refusal.Refusal.{Refusal}
use Rattle.apdu_codec.specs.declared.refusal.Refusal.TheVariants.{WrongLength, NotRemote, NoCurrentEf, WrongData, FileNotFound, NoRoom, WrongParameters}
use Rattle.apdu_codec.specs.Refusal.{◌>>=◌, ◌>>◌, only_if}
use Rattle.apdu_codec.specs.Reply.{Answer, answer}
use Rattle.file_records.specs.declared.contents.Contents.{Contents}
use Rattle.file_records.specs.declared.contents.Contents.TheVariants.{Folder, Transparent, Linear, Cyclic}
use Rattle.file_records.specs.declared.file.File.{File}
use Rattle.file_records.specs.File.{binary_read, binary_written, record_read, record_written, record_pushed, records_found, increased, marked}
use Rattle.card_files.specs.declared.kind.Kind.{Kind}
use Rattle.card_files.specs.declared.kind.Kind.TheVariants as Kinds
use Rattle.card_files.specs.declared.kind.NewFile.{NewFile}
use Rattle.card_files.specs.Path.{id_of, above, child_of, ids_of, word_at}
use Rattle.card_files.specs.State.{Tree, State, is_remote_at, file_in, folder_in, ef_in, room_of, with_selected, changed_at, changed_giving}

-- P1 and P2 are these
abbrev pub are : ℕ → ℕ → ℕ → ℕ → Result (Unit {0}) Refusal
are p1 p2 want1 want2 = only_if (p1 == want1 && p2 == want2) WrongParameters

-- the current EF
abbrev pub current : State → Result File Refusal
current s = do
  path ← ok_or s.ef NoCurrentEf
  ok_or (map.get s.files path) NoCurrentEf

-- a command that reads the current EF
abbrev pub reading : State → (File → Result (List ℕ) Refusal) → Result (State × List ℕ) Refusal
reading s read = do
  file ← current s
  octets ← read file
  Ok (s, octets)

-- a command that changes the EF at a path
abbrev pub writing : State → List ℕ → (File → Result File Refusal) → Result (State × List ℕ) Refusal
writing s path write = do
  files ← changed_at s.files path write
  Ok (record s { files = files }, [])

-- SELECT, 11.1.1

-- the file of an identifier, seen from the current folder: the MF (3F00), a file in the folder, the folder that
-- it lies in, or a DF beside it, in this order. A folder's own identifier is none of these
abbrev pub seen_from : State → ℕ → Option (List ℕ)
seen_from s id =
    if id == 0x3F00 then Some []
    else if is_some (file_in s.files s.folder id) then file_in s.files s.folder id
    else if id == id_of (above s.folder) then Some (above s.folder)
    else if id == id_of s.folder then None
    else folder_in s.files (above s.folder) id

-- the file at the end of a path that goes on from a folder, each a child of the one before
abbrev pub at_path : Tree → List ℕ → List ℕ → Option (List ℕ)
at_path files folder [] = Some folder
at_path files folder (id ∷ ids) = option_and_then (λ child. at_path files child ids) (file_in files folder id)

abbrev pub selecting : State → ℕ → ℕ → ℕ → List ℕ → Result (State × List ℕ) Refusal
selecting s p1 p2 p3 octets = do
  only_if ((p1 == 0 || p1 == 8) && (p2 == 0 || p2 == 4 || p2 == 12)) WrongParameters
  only_if (p3 == 2 || (p1 == 8 && (p3 == 4 || p3 == 6 || p3 == 8))) WrongLength
  path ← ok_or (if p1 == 0 then seen_from s (word_at octets 0) else at_path s.files [] (ids_of octets)) FileNotFound
  Ok (with_selected s path, [])

abbrev pub select : State → ℕ → ℕ → ℕ → List ℕ → Answer State
select s p1 p2 p3 octets = answer s (selecting s p1 p2 p3 octets)

-- READ BINARY, 11.1.3
abbrev pub reading_binary : State → ℕ → ℕ → ℕ → Result (State × List ℕ) Refusal
reading_binary s p1 p2 p3 = do
  only_if (nat_lt p1 128) WrongParameters
  reading s (λ file. binary_read file (256 * p1 + p2) p3)

abbrev pub read_binary : State → ℕ → ℕ → ℕ → List ℕ → Answer State
read_binary s p1 p2 p3 octets = answer s (reading_binary s p1 p2 p3)

-- UPDATE BINARY, 11.1.4
abbrev pub updating_binary : State → ℕ → ℕ → ℕ → List ℕ → Result (State × List ℕ) Refusal
updating_binary s p1 p2 p3 octets = do
  only_if (nat_lt p1 128) WrongParameters
  only_if (nat_lt 0 p3) WrongLength
  path ← ok_or s.ef NoCurrentEf
  writing s path (λ file. binary_written file (256 * p1 + p2) octets)

abbrev pub update_binary : State → ℕ → ℕ → ℕ → List ℕ → Answer State
update_binary s p1 p2 p3 octets = answer s (updating_binary s p1 p2 p3 octets)

-- READ RECORD, 11.1.5
abbrev pub reading_record : State → ℕ → ℕ → ℕ → Result (State × List ℕ) Refusal
reading_record s p1 p2 p3 = do
  only_if (p2 == 4) WrongParameters
  reading s (λ file. record_read file p1 p3)

abbrev pub read_record : State → ℕ → ℕ → ℕ → List ℕ → Answer State
read_record s p1 p2 p3 octets = answer s (reading_record s p1 p2 p3)

-- UPDATE RECORD, 11.1.6: P2 04 writes record P1 of a linear EF, P2 03 a new record 1 of a cyclic EF
abbrev pub updating_record : State → ℕ → ℕ → ℕ → List ℕ → Result (State × List ℕ) Refusal
updating_record s p1 p2 p3 octets = do
  only_if (p2 == 4 || (p1 == 0 && p2 == 3)) WrongParameters
  path ← ok_or s.ef NoCurrentEf
  if p2 == 4 then writing s path (λ file. record_written file p1 octets)
      else writing s path (λ file. record_pushed file octets)

abbrev pub update_record : State → ℕ → ℕ → ℕ → List ℕ → Answer State
update_record s p1 p2 p3 octets = answer s (updating_record s p1 p2 p3 octets)

-- SEARCH RECORD, 11.1.7
abbrev pub searching_record : State → ℕ → ℕ → ℕ → List ℕ → Result (State × List ℕ) Refusal
searching_record s p1 p2 p3 octets = do
  only_if (p2 == 4) WrongParameters
  only_if (nat_lt 0 p3) WrongLength
  reading s (λ file. records_found file p1 octets)

abbrev pub search_record : State → ℕ → ℕ → ℕ → List ℕ → Answer State
search_record s p1 p2 p3 octets = answer s (searching_record s p1 p2 p3 octets)

-- INCREASE, 11.1.8: it gives the sum, and then the number that was added
abbrev pub increasing : State → ℕ → ℕ → ℕ → List ℕ → Result (State × List ℕ) Refusal
increasing s p1 p2 p3 octets = do
  are p1 p2 0 0
  only_if (p3 == 3) WrongLength
  path ← ok_or s.ef NoCurrentEf
  sum ← changed_giving s.files path (λ file. increased file (256 * word_at octets 0 + slice_index octets 2))
  Ok (record s { files = sum.0 }, sum.1 ++ octets)

abbrev pub increase : State → ℕ → ℕ → ℕ → List ℕ → Answer State
increase s p1 p2 p3 octets = answer s (increasing s p1 p2 p3 octets)

-- the EF that DEACTIVATE FILE and ACTIVATE FILE name: the current one, or one in the current folder
abbrev pub named_ef : State → ℕ → List ℕ → Result (List ℕ) Refusal
named_ef s p3 octets = if p3 == 0 then ok_or s.ef NoCurrentEf else ok_or (ef_in s.files s.folder (word_at octets 0)) FileNotFound

abbrev pub marking : Bool → State → ℕ → ℕ → ℕ → List ℕ → Result (State × List ℕ) Refusal
marking active s p1 p2 p3 octets = do
  are p1 p2 0 0
  only_if (p3 == 0 || p3 == 2) WrongLength
  path ← named_ef s p3 octets
  writing s path (marked active)

-- DEACTIVATE FILE, 6.10 of ETSI TS 102 222
abbrev pub deactivate : State → ℕ → ℕ → ℕ → List ℕ → Answer State
deactivate s p1 p2 p3 octets = answer s (marking false s p1 p2 p3 octets)

-- ACTIVATE FILE, 6.11 of ETSI TS 102 222
abbrev pub activate : State → ℕ → ℕ → ℕ → List ℕ → Answer State
activate s p1 p2 p3 octets = answer s (marking true s p1 p2 p3 octets)

-- CREATE FILE, 6.3 of ETSI TS 102 222; the data field is this card's own: the kind, the identifier in two
-- octets, the length of a record, and the size in two octets

-- what a new file holds: octets FF, in a cyclic EF 00
abbrev pub contents_of : Kind → Contents
contents_of Kinds.Folder = Folder
contents_of (Kinds.Transparent size) = Transparent (replicate size 255)
contents_of (Kinds.Linear width count) = Linear (record { width = width; rows = replicate count (replicate width 255) })
contents_of (Kinds.Cyclic width count) = Cyclic (record { width = width; rows = replicate count (replicate width 0) })

-- a record EF can have records of this length and this size: at most 254 records
abbrev pub fit : ℕ → ℕ → Bool
fit width size = nat_lt 0 width && nat_lt 0 size && size % width == 0 && nat_le (size / width) 254

-- the kind of a new file in a folder that is `depth` deep below the MF: 1 a DF, at most three deep, 2 a
-- transparent EF, 3 a linear and 4 a cyclic one
abbrev pub kind_of : ℕ → ℕ → ℕ → ℕ → Option Kind
kind_of depth kind width size =
    if kind == 1 && width == 0 && size == 0 && nat_lt depth 3 then Some Kinds.Folder
    else if kind == 2 && width == 0 && nat_lt 0 size then Some (Kinds.Transparent size)
    else if kind == 3 && fit width size then Some (Kinds.Linear width (size / width))
    else if kind == 4 && fit width size then Some (Kinds.Cyclic width (size / width))
    else None

-- an identifier is taken: it is that of the MF, of the current folder, of the one that it lies in, or of
-- a file in it
abbrev pub is_taken : State → ℕ → Bool
is_taken s id = id == 0x3F00 || id == id_of s.folder || id == id_of (above s.folder) || is_some (file_in s.files s.folder id)

-- a new file, which is active and remote, becomes selected; there are at most 256 files, the MF among them, and
-- EFs have room for 32,768 octets
abbrev pub with_new : State → List ℕ → Contents → State
with_new s path contents =
    let file : File = record { remote = true; active = true; contents = contents } in
    with_selected (record s { files = map.insert s.files path file }) path

abbrev pub wanted : State → ℕ → ℕ → ℕ → List ℕ → Result NewFile Refusal
wanted s p1 p2 p3 octets = do
  are p1 p2 0 0
  only_if (p3 == 6) WrongLength
  only_if (is_remote_at s.files s.folder) NotRemote
  only_if (not (is_taken s (word_at octets 1))) WrongData
  path ← ok_or (child_of s.folder (word_at octets 1)) WrongData
  kind ← ok_or (kind_of (length s.folder) (slice_index octets 0) (slice_index octets 3) (word_at octets 4)) WrongData
  only_if (nat_lt (map.len s.files) 256 && nat_le (room_of s.files + word_at octets 4) 32768) NoRoom
  Ok (record { path = path; kind = kind })

abbrev pub creating : State → ℕ → ℕ → ℕ → List ℕ → Result (State × List ℕ) Refusal
creating s p1 p2 p3 octets = do
  new ← wanted s p1 p2 p3 octets
  Ok (with_new s new.path (contents_of new.kind), [])

abbrev pub create : State → ℕ → ℕ → ℕ → List ℕ → Answer State
create s p1 p2 p3 octets = answer s (creating s p1 p2 p3 octets)

-- DELETE FILE, 6.4 of ETSI TS 102 222

-- a path is this one, or lies below it
abbrev pub is_within : List ℕ → List ℕ → Bool
is_within path other = starts_with nat_eq other path

-- each file with this path or below it may be managed remotely
abbrev pub all_remote : Tree → List ℕ → Bool
all_remote files path = list_all (λ entry. not (is_within path entry.0) || entry.1.remote) (map.entries files)

-- the current EF, if it doesn't go with the file of this path
abbrev pub ef_without : List ℕ → Option (List ℕ) → Option (List ℕ)
ef_without path ef = option_and_then (λ ef. if is_within path ef then None else Some ef) ef

-- the file with this path goes, with all below it; where it was the current EF, none is
abbrev pub without : State → List ℕ → State
without s path = record s { files = map.retain_keys s.files (λ other. not (is_within path other)); ef = ef_without path s.ef }

abbrev pub deleting : State → ℕ → ℕ → ℕ → List ℕ → Result (State × List ℕ) Refusal
deleting s p1 p2 p3 octets = do
  are p1 p2 0 0
  only_if (p3 == 2) WrongLength
  path ← ok_or (file_in s.files s.folder (word_at octets 0)) FileNotFound
  only_if (all_remote s.files path) NotRemote
  Ok (without s path, [])

abbrev pub delete : State → ℕ → ℕ → ℕ → List ℕ → Answer State
delete s p1 p2 p3 octets = answer s (deleting s p1 p2 p3 octets)
