-- Each command leaves the files sound.
use Rattle.std.proofs.Common.{◌≡◌, ℕ, ◌+◌, ◌<◌, ◌≤◌, Bool, true, false, not, cond, if◌then◌else◌, List, [], length, Option, Some, None, is_some, ok_or, Result, Ok, Err, refl, sym, ap, subst, ◌∙◌}
use Rattle.std.specs.Option.{option_and_then}
use Rattle.std.specs.Ordering.{is_eq}
use Rattle.std.specs.Cmp.{tied_itself}
use Rattle.std.specs.Cmp.Lexicographic.{nat_list_cmp_total}
use Rattle.std.specs.FinMap as map
use Rattle.apdu_codec.specs.declared.refusal.Refusal.{Refusal}
use Rattle.apdu_codec.specs.declared.refusal.Refusal.TheVariants.{NoCurrentEf}
use Rattle.apdu_codec.specs.Refusal.{◌>>=◌}
use Rattle.file_records.specs.Made.{Makes, MakesAndGives}
use Rattle.file_records.specs.declared.file.File.{File}
use Rattle.file_records.specs.File.{is_folder, size_of}
use Rattle.card_files.specs.Path.{above}
use Rattle.card_files.specs.State.{Tree, State, is_folder_at, room_of, changed_at, changed_giving}
use Rattle.card_files.specs.Commands.{is_within, ef_without}
use Rattle.card_files.specs.Sound.{IsInPlace, IsSound}
use Rattle.card_files.proofs.FormLemmas.{IsKept}
use Rattle.card_files.proofs.PlaceLemmas.{Alike, passes, same-file, tree-put, selected-put, tree-without, selected-without, selected-forgotten}
use Rattle.card_files.proofs.SizeLemmas.{room-same, room-more, room-without}
use Rattle.card_files.proofs.WithinLemmas.{stays}

-- the state of these parts
abbrev pub state : Tree → List ℕ → Option (List ℕ) → State
state files folder ef = record { files = files; folder = folder; ef = ef }

-- a file of its kind, size and form was put in the place of a file
pub sound-put : (files : Tree) (folder : List ℕ) (ef : Option (List ℕ)) (path : List ℕ) (before new : File) → map.get files path ≡ Some before → IsKept before new → IsSound (state files folder ef) → IsSound (state (map.insert files path new) folder ef)
sound-put files folder ef path before new found kept h =
    let alike : Alike is_folder files path new = λ old is. kept.kind ∙ ap is_folder (same-file before old (sym found ∙ is)) in
    let was = h.tree.places path before found in
    let place : IsInPlace files path new = record {
      folder = was.folder;
      deep = subst (λ b. length path ≤ (if b then 3 else 4)) (sym kept.kind) was.deep;
      id = was.id;
      form = kept.form was.form;
    } in
    record {
      tree = tree-put files path new h.tree alike place;
      selected = selected-put files path new folder ef alike h.selected;
      room = room-same files path before new found kept.size h.room;
    }

-- what a command does to a file that it finds
changed : Tree → List ℕ → (File → Result File Refusal) → Option File → Result Tree Refusal
changed files path change found = ok_or found NoCurrentEf >>= (λ file. change file >>= (λ new. Ok (map.insert files path new)))

given : Tree → List ℕ → (File → Result (File × List ℕ) Refusal) → Option File → Result (Tree × List ℕ) Refusal
given files path change found = ok_or found NoCurrentEf >>= (λ file. change file >>= (λ new. Ok (map.insert files path new.0, new.1)))

put_given : Tree → List ℕ → Result (File × List ℕ) Refusal → Result (Tree × List ℕ) Refusal
put_given files path made = made >>= (λ new. Ok (map.insert files path new.0, new.1))

ok_tree : Tree → Result Tree Refusal → Tree
ok_tree files (Ok after) = after
ok_tree files (Err refusal) = files

ok_given : Tree → Result (Tree × List ℕ) Refusal → Tree
ok_given files (Ok after) = after.0
ok_given files (Err refusal) = files

module _ (files : Tree) (folder : List ℕ) (ef : Option (List ℕ)) (path : List ℕ) (h : IsSound (state files folder ef)) where
  sound-made : (before : File) → map.get files path ≡ Some before → (change : File → Result File Refusal) (made : Result File Refusal) (after : Tree) → ((new : File) → made ≡ Ok new → IsKept before new)
      → (made >>= (λ new. Ok (map.insert files path new))) ≡ Ok after → IsSound (state after folder ef)
  unfolding ok_tree
  sound-made before found change (Ok new) after kept is =
      let P : Tree → Type 0 = λ t. IsSound (state t folder ef) in
      subst P (ap (ok_tree files) is) (sound-put files folder ef path before new found (kept new refl) h)
  sound-made before found change (Err refusal) after kept is = cc

  sound-found : (found : Option File) (change : File → Result File Refusal) (after : Tree) → map.get files path ≡ found → ((before new : File) → change before ≡ Ok new → IsKept before new)
      → changed files path change found ≡ Ok after → IsSound (state after folder ef)
  unfolding changed
  sound-found (Some before) change after is kept made = sound-made before is change (change before) after (kept before) made
  sound-found None change after is kept made = cc

  -- the EF at a path was changed by a command, or the command was refused
  pub sound-changed : (change : File → Result File Refusal) → ((before new : File) → change before ≡ Ok new → IsKept before new) → (after : Tree) (result : Result (Unit {0}) Refusal) → Makes files after result (changed_at files path change) → IsSound (state after folder ef)
  unfolding changed
  sound-changed change kept after (Ok done) made = sound-found (map.get files path) change after refl kept made
  sound-changed change kept after (Err refusal) made = let P : Tree → Type 0 = λ t. IsSound (state t folder ef) in subst P (sym made.1) h

  sound-gave : (before : File) → map.get files path ≡ Some before → (made : Result (File × List ℕ) Refusal) (after : Tree) (out : List ℕ) → ((new : File) (out : List ℕ) → made ≡ Ok (new, out) → IsKept before new)
      → put_given files path made ≡ Ok (after, out) → IsSound (state after folder ef)
  unfolding ok_given put_given
  sound-gave before found (Ok new) after out kept is =
      let P : Tree → Type 0 = λ t. IsSound (state t folder ef) in
      subst P (ap (ok_given files) is) (sound-put files folder ef path before new.0 found (kept new.0 new.1 refl) h)
  sound-gave before found (Err refusal) after out kept is = cc

  sound-found_giving : (found : Option File) (change : File → Result (File × List ℕ) Refusal) (after : Tree) (out : List ℕ) → map.get files path ≡ found → ((before new : File) (out : List ℕ) → change before ≡ Ok (new, out) → IsKept before new)
      → given files path change found ≡ Ok (after, out) → IsSound (state after folder ef)
  unfolding given put_given
  sound-found_giving (Some before) change after out is kept made = sound-gave before is (change before) after out (kept before) made
  sound-found_giving None change after out is kept made = cc

  pub sound-giving : {A : Type 0} (view : A → List ℕ) (change : File → Result (File × List ℕ) Refusal) → ((before new : File) (out : List ℕ) → change before ≡ Ok (new, out) → IsKept before new) → (after : Tree) (result : Result A Refusal) → MakesAndGives view files after result (changed_giving files path change) → IsSound (state after folder ef)
  unfolding given
  sound-giving view change kept after (Ok value) made = sound-found_giving (map.get files path) change after (view value) refl kept made
  sound-giving view change kept after (Err refusal) made = let P : Tree → Type 0 = λ t. IsSound (state t folder ef) in subst P (sym made.1) h

  none-there : (new : File) → map.get files path ≡ None → Alike is_folder files path new
  none-there new none old is = let never : None ≡ Some old = sym none ∙ is in cc

  -- a file was put among the others
  pub sound-new : (new : File) → map.get files path ≡ None → IsInPlace files path new → map.len files < 256 → room_of files + size_of new ≤ 32768 → IsSound (state (map.insert files path new) folder ef)
  sound-new new none place few room = record {
    tree = tree-put files path new h.tree (none-there new none) place;
    selected = selected-put files path new folder ef (none-there new none) h.selected;
    room = room-more files path new few room;
  }

  -- the files below a path went, of which none is the current folder or current EF
  pub sound-without : is_within path folder ≡ false → IsSound (state (map.retain_keys files (stays path)) folder (ef_without path ef))
  sound-without out = record {
    tree = tree-without files path folder out h.tree;
    selected = selected-without files path folder ef out h.selected;
    room = room-without files path h.room;
  }

  pub sound-forgotten : IsSound (state files folder (ef_without path ef))
  sound-forgotten = record { tree = h.tree; selected = selected-forgotten files path folder ef h.selected; room = h.room }

  is_ef-there : (found : Option File) → is_some found ≡ true → passes is_folder found ≡ false → passes (λ (f : File). not (is_folder f)) found ≡ true
  is_ef-there (Some file) there is = ap not is
  is_ef-there None there is = cc

  folder-above : (found : Option File) → map.get files path ≡ found → is_some found ≡ true → is_folder_at files (above path) ≡ true
  folder-above (Some file) is there = (h.tree.places path file is).folder
  folder-above None is there = cc

  -- a file that is there becomes selected
  pub sound-folder : is_folder_at files path ≡ true → IsSound (state files path None)
  sound-folder is = record { tree = h.tree; selected = record { folder = is; ef = tt }; room = h.room }

  pub sound-ef : is_some (map.get files path) ≡ true → is_folder_at files path ≡ false → IsSound (state files (above path) (Some path))
  sound-ef there is = record {
    tree = h.tree;
    selected = record { folder = folder-above (map.get files path) refl there; ef = (is_ef-there (map.get files path) there is, refl) };
    room = h.room;
  }

pub sound-mf : (files : Tree) (folder : List ℕ) (ef : Option (List ℕ)) → IsSound (state files folder ef) → IsSound (state files [] None)
sound-mf files folder ef h = record { tree = h.tree; selected = record { folder = h.tree.mf; ef = tt }; room = h.room }

-- what was forgotten once is forgotten
pub forgotten-twice : (path : List ℕ) (ef : Option (List ℕ)) → ef_without path (ef_without path ef) ≡ ef_without path ef
forgotten-twice path None = refl
forgotten-twice path (Some ef) =
    elim (is_within path ef) as (λ b. is_within path ef ≡ b → option_and_then (λ (e : List ℕ). if is_within path e then None else Some e) (if b then None else Some ef) ≡ (if b then None else Some ef)) [
      | true ↦ λ e. refl
      | false ↦ λ e. ap (λ (b : Bool). if b then None else Some ef) e
    ] refl

-- a file is there once it was put
pub there-put : (files : Tree) (path : List ℕ) (file : File) → is_some (map.get (map.insert files path file) path) ≡ true
there-put files path file =
    ap is_some (map.get-insert nat_list_cmp_total files path file path)
    ∙ ap (λ o. is_some (cond (is_eq o) (Some file) (map.get files path))) (tied_itself nat_list_cmp_total path)
