-- The files that commands name are there.
use Rattle.std.proofs.Common.{◌≡◌, ℕ, Bool, true, false, nat_lt, if◌then◌else◌, List, [], ◌∷◌, ◌++◌, length, Option, Some, None, is_some, refl, sym, ap, subst, ◌∙◌}
use Rattle.std.specs.Option.{option_and_then}
use Rattle.std.specs.FinMap as map
use Rattle.file_records.specs.declared.file.File.{File}
use Rattle.file_records.specs.File.{is_folder}
use Rattle.card_files.specs.Path.{above}
use Rattle.card_files.specs.State.{Tree, State, is_folder_at, file_in}
use Rattle.card_files.specs.Commands.{is_within, at_path}
use Rattle.card_files.specs.Sound.{IsSound, IsTree}
use Rattle.card_files.proofs.PlaceLemmas.{passes, outside-child}

-- a file with this path is there
abbrev pub IsThere : Tree → List ℕ → Type 0
IsThere files path = is_some (map.get files path) ≡ true

some-passes : (found : Option File) (test : File → Bool) → passes test found ≡ true → is_some found ≡ true
some-passes (Some file) test h = refl
some-passes None test h = cc

pub there-folder : (files : Tree) (path : List ℕ) → is_folder_at files path ≡ true → IsThere files path
there-folder files path h = some-passes (map.get files path) is_folder h

same-path : (x y : List ℕ) → Some x ≡ Some y → x ≡ y
same-path x y e = ap (λ (o : Option (List ℕ)). elim o as (λ _. List ℕ) [ Some z ↦ z | None ↦ x ]) e

chosen : (b : Bool) (path found : List ℕ) → (if b then Some path else None) ≡ Some found → (b ≡ true) × (path ≡ found)
chosen true path found e = (refl, same-path path found e)
chosen false path found e = cc

both : (b : Bool) (path found : List ℕ) (test : List ℕ → Bool) → option_and_then (λ p. if test p then Some p else None) (if b then Some path else None) ≡ Some found → (test found ≡ true) × (path ≡ found)
both true path found test e = let h = chosen (test path) path found e in (ap test (sym h.1) ∙ h.0, h.1)
both false path found test e = cc

-- a file that is found in a folder is there, and is a child of it
pub found-in_folder : (files : Tree) (folder : List ℕ) (id : ℕ) (path : List ℕ) → file_in files folder id ≡ Some path → IsThere files path × (folder ++ id ∷ [] ≡ path)
found-in_folder files folder id path e = both (nat_lt (length folder) 4) (folder ++ id ∷ []) path (λ p. is_some (map.get files p)) e

pub outside-found : (files : Tree) (folder : List ℕ) (id : ℕ) (path : List ℕ) → file_in files folder id ≡ Some path → is_within path folder ≡ false
outside-found files folder id path e = ap (λ p. is_within p folder) (sym (found-in_folder files folder id path e).1) ∙ outside-child folder id

folder-above : (files : Tree) (path : List ℕ) (found : Option File) → IsTree files → map.get files path ≡ found → is_some found ≡ true → is_folder_at files (above path) ≡ true
folder-above files path (Some file) h is there = (h.places path file is).folder
folder-above files path None h is there = cc

-- the folder above the current one is there
pub there-above : (s : State) → IsSound s → IsThere s.files (above s.folder)
there-above s h = there-folder s.files (above s.folder) (folder-above s.files s.folder (map.get s.files s.folder) h.tree refl (there-folder s.files s.folder h.selected.folder))

there-on : (files : Tree) (folder : List ℕ) (ids : List ℕ) (path : List ℕ) → IsThere files folder → at_path files folder ids ≡ Some path → IsThere files path
there-on files folder [] path there e = subst (IsThere files) (same-path folder path e) there
there-on files folder (id ∷ ids) path there e =
    elim (file_in files folder id) as (λ found. file_in files folder id ≡ found → option_and_then (λ child. at_path files child ids) found ≡ Some path → IsThere files path) [
      | Some child ↦ λ is next. there-on files child ids path (found-in_folder files folder id child is).0 next
      | None ↦ λ is next. let never : None ≡ Some path = next in cc
    ] refl e

-- the file at the end of a path from the MF is there
pub there-at_path : (files : Tree) (ids : List ℕ) (path : List ℕ) → IsTree files → at_path files [] ids ≡ Some path → IsThere files path
there-at_path files ids path h e = there-on files [] ids path (there-folder files [] h.mf) e
