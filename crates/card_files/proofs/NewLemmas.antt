-- The file that CREATE FILE wants stands in its place.
use Rattle.std.proofs.Common.{◌≡◌, ◌≢◌, ℕ, ◌+◌, ◌-◌, ◌<◌, ◌≤◌, Bool, true, false, ◌&&◌, ◌||◌, ◌==◌, nat_lt, nat_le, if◌then◌else◌, List, [], ◌∷◌, ◌++◌, length, take, get_or, replicate, Option, Some, None, is_some, refl, sym, ap, subst, ◌∙◌, arith, length-append}
use Rattle.std.proofs.lemmas.List.{length-replicate}
use Rattle.std.proofs.Math.Seq.{take-append_seam}
use Rattle.std.proofs.lemmas.Bool.Decides.{nat_tests}
use Rattle.std.proofs.lemmas.List.Elements.{All-replicate}
use Rattle.std.specs.Option.{option_and_then}
use Rattle.std.specs.FinMap as map
use Rattle.file_records.specs.declared.file.File.{File}
use Rattle.file_records.specs.File.{is_folder, size_in}
use Rattle.card_files.specs.declared.kind.Kind.{Kind}
use Rattle.card_files.specs.declared.kind.Kind.TheVariants as Kinds
use Rattle.card_files.specs.Kind.{IsSized, deepest}
use Rattle.card_files.specs.Path.{id_of, above, child_of}
use Rattle.card_files.specs.State.{Tree, State, is_folder_at, file_in, room_of}
use Rattle.card_files.specs.Commands.{contents_of, is_taken}
use Rattle.card_files.proofs.PlaceLemmas.{passes}
use Rattle.card_files.specs.Sound.{AreRecords, HasForm, IsIdIn, IsNew, IsTree, IsSound, new_file}

rows-sized : (width count octet : ℕ) → 0 < width → width < 256 → 0 < count → count ≤ 254 → AreRecords (record { width = width; rows = replicate count (replicate width octet) })
rows-sized width count octet some short any few =
    let long : length (replicate count (replicate width octet)) ≡ count = length-replicate count (replicate width octet) in
    record {
      octets = some;
      short = short;
      some = subst (λ n. 0 < n) (sym long) any;
      few = subst (λ n. n ≤ 254) (sym long) few;
      alike = All-replicate (λ (row : List ℕ). length row ≡ width) count (replicate width octet) (length-replicate width octet);
    }

pub form-of : (kind : Kind) → IsSized kind → HasForm (contents_of kind)
form-of Kinds.Folder h = tt
form-of (Kinds.Transparent size) h = subst (λ n. 0 < n) (sym (length-replicate size 255)) h
form-of (Kinds.Linear width count) h = rows-sized width count 255 h.0 h.1 h.2 h.3
form-of (Kinds.Cyclic width count) h = rows-sized width count 0 h.0 h.1 h.2 h.3

deep-of : (kind : Kind) (depth : ℕ) → depth < deepest kind → depth + 1 ≤ (if is_folder (new_file (contents_of kind)) then 3 else 4)
deep-of Kinds.Folder depth h = omega (arith, h)
deep-of (Kinds.Transparent size) depth h = omega (arith, h)
deep-of (Kinds.Linear width count) depth h = omega (arith, h)
deep-of (Kinds.Cyclic width count) depth h = omega (arith, h)

above-child : (folder : List ℕ) (id : ℕ) → above (folder ++ id ∷ []) ≡ folder
above-child folder id =
    let long : length (folder ++ id ∷ []) - 1 ≡ length folder = ap (λ n. n - 1) (length-append folder (id ∷ [])) ∙ omega arith in
    ap (λ n. take n (folder ++ id ∷ [])) long ∙ take-append_seam folder (id ∷ [])

last-child : (folder : List ℕ) (id d : ℕ) → get_or (folder ++ id ∷ []) (length folder) d ≡ id
last-child [] id d = refl
last-child (x ∷ xs) id d = last-child xs id d

id-child : (folder : List ℕ) (id : ℕ) → id_of (folder ++ id ∷ []) ≡ id
id-child folder id =
    let long : length (folder ++ id ∷ []) - 1 ≡ length folder = ap (λ n. n - 1) (length-append folder (id ∷ [])) ∙ omega arith in
    ap (λ n. get_or (folder ++ id ∷ []) n 0x3F00) long ∙ last-child folder id 0x3F00

four : (a b c d : Bool) → (a || b || c || d) ≡ false → (a ≡ false) × (b ≡ false) × (c ≡ false) × (d ≡ false)
four true b c d h = cc
four false true c d h = cc
four false false true d h = cc
four false false false d h = (refl, refl, refl, h)

pub distinct-ids : (x y : ℕ) → (x == y) ≡ false → x ≢ y
distinct-ids x y h = grind (arith, nat_tests)

id-free : (s : State) (id : ℕ) → id < 65536 → is_taken s id ≡ false → IsIdIn s.folder id
id-free s id fits free =
    let tests = four (id == 0x3F00) (id == id_of s.folder) (id == id_of (above s.folder)) (is_some (file_in s.files s.folder id)) free in
    record { octets = fits; not_mf = distinct-ids id 0x3F00 tests.0; not_folder = distinct-ids id (id_of s.folder) tests.1; not_above = distinct-ids id (id_of (above s.folder)) tests.2 }

child-found : (b : Bool) (path found : List ℕ) → Some found ≡ (if b then Some path else None) → path ≡ found
child-found true path found e = ap (λ (o : Option (List ℕ)). elim o as (λ _. List ℕ) [ Some z ↦ z | None ↦ path ]) (sym e)
child-found false path found e = cc

folder-deep : (files : Tree) (path : List ℕ) (found : Option File) → IsTree files → map.get files path ≡ found → passes is_folder found ≡ true → length path ≤ 3
folder-deep files path (Some file) h is folder = subst (λ (b : Bool). length path ≤ (if b then 3 else 4)) folder (h.places path file is).deep
folder-deep files path None h is folder = cc

-- a folder lies at most three deep
pub deep-folder : (files : Tree) (path : List ℕ) → IsTree files → is_folder_at files path ≡ true → length path ≤ 3
deep-folder files path h is = folder-deep files path (map.get files path) h refl is

none-found : (b : Bool) (files : Tree) (path : List ℕ) → is_some (option_and_then (λ p. if is_some (map.get files p) then Some p else None) (Some path)) ≡ false → map.get files path ≡ None
none-found b files path h =
    elim (map.get files path) as (λ (found : Option File). is_some (if is_some found then Some path else None) ≡ false → found ≡ None) [
      | Some file ↦ λ e. cc
      | None ↦ λ e. refl
    ] h

-- the file of an identifier that isn't taken, in the current folder
pub is-new : (s : State) (id : ℕ) (path : List ℕ) (kind : Kind) (size : ℕ) → IsSound s → id < 65536 → is_taken s id ≡ false → Some path ≡ child_of s.folder id → IsSized kind → length s.folder < deepest kind → size_in (contents_of kind) ≡ size
    → (nat_lt (map.len s.files) 256 && nat_le (room_of s.files + size) 32768) ≡ true → IsNew s.files path (contents_of kind)
is-new s id path kind size h fits free child sized deep is room =
    let tests = four (id == 0x3F00) (id == id_of s.folder) (id == id_of (above s.folder)) (is_some (file_in s.files s.folder id)) free in
    let made = child-found (nat_lt (length s.folder) 4) (s.folder ++ id ∷ []) path child in
    let under : above path ≡ s.folder = ap above (sym made) ∙ above-child s.folder id in
    let last : id_of path ≡ id = ap id_of (sym made) ∙ id-child s.folder id in
    let long : length path ≡ length s.folder + 1 = ap length (sym made) ∙ length-append s.folder (id ∷ []) in
    let absent : is_some (option_and_then (λ p. if is_some (map.get s.files p) then Some p else None) (Some path)) ≡ false = ap (λ (o : Option (List ℕ)). is_some (option_and_then (λ p. if is_some (map.get s.files p) then Some p else None) o)) child ∙ tests.3 in
    record {
      free = none-found true s.files path absent;
      place = record {
        folder = subst (λ p. is_folder_at s.files p ≡ true) (sym under) h.selected.folder;
        deep = subst (λ n. n ≤ (if is_folder (new_file (contents_of kind)) then 3 else 4)) (sym long) (deep-of kind (length s.folder) deep);
        id = λ some. subst (λ p. IsIdIn p (id_of path)) (sym under) (subst (IsIdIn s.folder) (sym last) (id-free s id fits free));
        form = form-of kind sized;
      };
      few = grind (arith, nat_tests);
      room = grind (arith, nat_tests);
    }
