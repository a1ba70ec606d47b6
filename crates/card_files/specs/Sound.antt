-- What holds of the files of every card. ETSI TS 102 221, 8.
--
-- No path stands twice, since the files are a finite map from their paths.
use Rattle.std.specs.Prelude.{◌≡◌, ◌≢◌, ℕ, ◌+◌, ◌<◌, ◌≤◌, true, if◌then◌else◌, Option, Some, None, IfSome, List, [], length}
use Rattle.std.specs.List.{All}
use Rattle.std.specs.FinMap as map
use Rattle.file_records.specs.declared.contents.Contents.{Contents}
use Rattle.file_records.specs.declared.contents.Contents.TheVariants.{Folder, Transparent, Linear, Cyclic}
use Rattle.file_records.specs.declared.file.File.{File}
use Rattle.file_records.specs.File.{is_folder, size_in}
use Rattle.file_records.specs.Rows.{Rows}
use Rattle.card_files.specs.Path.{id_of, above}
use Rattle.card_files.specs.State.{Tree, State, is_folder_at, is_ef_at, room_of}

-- records of one length, of 1 to 255 octets; there are 1 to 254 of them (8.2.2.2 and 8.2.2.3)
pub record AreRecords (records : Rows) : Type 0 where
  pub octets : 0 < records.width
  pub short : records.width < 256
  pub some : 0 < length records.rows
  pub few : length records.rows ≤ 254
  pub alike : All (λ row. length row ≡ records.width) records.rows

-- what a file may hold: a transparent EF has an octet at least
abbrev pub HasForm : Contents → Type 0
HasForm Folder = Unit {0}
HasForm (Transparent octets) = 0 < length octets
HasForm (Linear records) = AreRecords records
HasForm (Cyclic records) = AreRecords records

-- an identifier that a file in a folder may have: two octets, and neither those of the MF, nor those of the
-- folder, nor those of the one that the folder lies in (8.6)
pub record IsIdIn (folder : List ℕ) (id : ℕ) : Type 0 where
  pub octets : id < 65536
  pub not_mf : id ≢ 0x3F00
  pub not_folder : id ≢ id_of folder
  pub not_above : id ≢ id_of (above folder)

-- a file stands in its place: the folder that it lies in is there, no DF lies more than three deep below the
-- MF and no EF more than four, and each but the MF has an identifier of its own
pub record IsInPlace (files : Tree) (path : List ℕ) (file : File) : Type 0 where
  pub folder : is_folder_at files (above path) ≡ true
  pub deep : length path ≤ (if is_folder file then 3 else 4)
  pub id : path ≢ [] → IsIdIn (above path) (id_of path)
  pub form : HasForm file.contents

-- a new file is active, and may be managed remotely
abbrev pub new_file : Contents → File
new_file contents = record { remote = true; active = true; contents = contents }

-- a new file of these contents may be put into the tree: no other has its path, it would stand in its place, and
-- there is room
pub record IsNew (files : Tree) (path : List ℕ) (contents : Contents) : Type 0 where
  pub free : map.get files path ≡ None
  pub place : IsInPlace files path (new_file contents)
  pub few : map.len files < 256
  pub room : room_of files + size_in contents ≤ 32768

-- the MF is there, and is a folder; each file stands in its place
pub record IsTree (files : Tree) : Type 0 where
  pub mf : is_folder_at files [] ≡ true
  pub places : (path : List ℕ) (file : File) → map.get files path ≡ Some file → IsInPlace files path file

-- the current folder is a folder of the tree, and the current EF, where there is one, an EF in it
pub record IsSelected (files : Tree) (df : List ℕ) (current : Option (List ℕ)) : Type 0 where
  pub folder : is_folder_at files df ≡ true
  pub ef : IfSome current (λ path. (is_ef_at files path ≡ true) × (above path ≡ df))

-- there are at most 256 files, the MF among them, and EFs take at most 32,768 octets
pub record HasRoom (files : Tree) : Type 0 where
  pub few : map.len files ≤ 256
  pub room : room_of files ≤ 32768

pub record IsSound (s : State) : Type 0 where
  pub tree : IsTree s.files
  pub selected : IsSelected s.files s.folder s.ef
  pub room : HasRoom s.files
