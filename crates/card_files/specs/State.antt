-- The files of a card and what is selected. ETSI TS 102 221, 8.
use Rattle.std.specs.Prelude.{ℕ, Bool, false, not, nat_le, is_some, Option, Some, None, option_and_then, if◌then◌else◌, List, length, sum_by, ok_or, Result, Ok, refl}
use Rattle.std.specs.Coded.{Coded, code_by, coded×, coded_ℕ, coded_list, coded_option}
use Rattle.apdu_codec.specs.declared.refusal.Refusal.{Refusal}
use Rattle.apdu_codec.specs.declared.refusal.Refusal.TheVariants.{NoCurrentEf}
use Rattle.apdu_codec.specs.Refusal.{◌>>=◌}
use Rattle.std.specs.Ordering.{nat_cmp}
use Rattle.std.specs.Cmp.Lexicographic.{slice_cmp}
use Rattle.std.specs.Option.{option_map_or}
use Rattle.std.specs.FinMap as map
use Rattle.card_files.specs.Path.{above, child_of}
use Rattle.file_records.specs.declared.file.File.{File}
use Rattle.file_records.specs.File.{is_folder, size_of, octets_held_by}

-- the files by their paths: the identifiers from the MF down; the path of the MF is empty
abbrev pub Tree : Type 0
Tree = map.FinMap (slice_cmp nat_cmp) File

-- the files, the path of the current folder (the MF or a DF), and that of the current EF
pub record State : Type 0 where
  pub files : Tree
  pub folder : List ℕ
  pub ef : Option (List ℕ)

-- a state is stored as the tuple of its parts
abbrev pub state_code : Coded File → Coded State
state_code file =
    code_by (Tree × (List ℕ × Option (List ℕ))) (coded× (map.code (coded_list coded_ℕ) file) (coded× (coded_list coded_ℕ) (coded_option (coded_list coded_ℕ))))
    (λ s. (s.files, (s.folder, s.ef))) (λ p. record { files = p.0; folder = p.1.0; ef = p.1.1 }) (λ _. refl)

-- the octets that the EFs among these files hold
abbrev pub total_of : List File → ℕ
total_of files = sum_by size_of files

-- the room that all EFs take
abbrev pub room_of : Tree → ℕ
room_of files = total_of (map.values files)

-- a path names a folder, or an EF, of these files
abbrev pub is_ef_at : Tree → List ℕ → Bool
is_ef_at files path = option_map_or (λ file. not (is_folder file)) (map.get files path) false

abbrev pub is_folder_at : Tree → List ℕ → Bool
is_folder_at files path = option_map_or is_folder (map.get files path) false

-- a path names a file that may be managed remotely
abbrev pub is_remote_at : Tree → List ℕ → Bool
is_remote_at files path = option_map_or (λ file. file.remote) (map.get files path) false

-- the path of the file with this identifier in a folder, if there is one
abbrev pub file_in : Tree → List ℕ → ℕ → Option (List ℕ)
file_in files folder id = option_and_then (λ path. if is_some (map.get files path) then Some path else None) (child_of folder id)

-- the same, if it is a folder, or an EF
abbrev pub folder_in : Tree → List ℕ → ℕ → Option (List ℕ)
folder_in files folder id = option_and_then (λ path. if is_folder_at files path then Some path else None) (child_of folder id)

abbrev pub ef_in : Tree → List ℕ → ℕ → Option (List ℕ)
ef_in files folder id = option_and_then (λ path. if is_ef_at files path then Some path else None) (child_of folder id)

-- the file with this path is selected: a folder becomes current and no EF is; an EF becomes current, and
-- the folder that it lies in
abbrev pub with_selected : State → List ℕ → State
with_selected s path =
    if is_folder_at s.files path then record s { folder = path; ef = None }
    else record s { folder = above path; ef = Some path }

-- the files with the one at a path changed by a command
abbrev pub changed_at : Tree → List ℕ → (File → Result File Refusal) → Result Tree Refusal
changed_at files path change =
    ok_or (map.get files path) NoCurrentEf >>= (λ file. change file >>= (λ new. Ok (map.insert files path new)))

-- the same, with what the command gives
abbrev pub changed_giving : Tree → List ℕ → (File → Result (File × List ℕ) Refusal) → Result (Tree × List ℕ) Refusal
changed_giving files path change =
    ok_or (map.get files path) NoCurrentEf >>= (λ file. change file >>= (λ new. Ok (map.insert files path new.0, new.1)))

-- the octets of the transparent EF at the end of a path from the MF; no file lies more than four deep
abbrev pub octets_at : Tree → List ℕ → Option (List ℕ)
octets_at files path = if nat_le (length path) 4 then option_and_then octets_held_by (map.get files path) else None
