-- The files in a map of the program are those of the finite map.
use Rattle.std.proofs.Common.{Result, Ok, Err, ok_or, IsSome, subst, ◌≡◌, ℕ, Bool, true, false, cond, List, [], ◌∷◌, Option, Some, None, refl, sym, ap, ◌∙◌}
use Rattle.std.specs.declared.cmp.Ordering.{Ordering}
use Rattle.std.specs.declared.cmp.Ordering.TheVariants.{Less, Equal, Greater}
use Rattle.std.specs.Ordering.{nat_cmp, eq_by_cmp, is_eq}
use Rattle.apdu_codec.specs.declared.refusal.Refusal.{Refusal}
use Rattle.apdu_codec.specs.declared.refusal.Refusal.TheVariants.{NoCurrentEf}
use Rattle.apdu_codec.specs.Refusal.{◌>>=◌}
use Rattle.file_records.specs.Made.{Makes, MakesAndGives}
use Rattle.std.specs.Cmp.{eq_by_cmp_equiv}
use Rattle.std.specs.Cmp.Lexicographic.{slice_cmp, nat_list_cmp_total}
use Rattle.std.specs.Map.{lookup}
use Rattle.std.specs.BTreeMap.{BTreeMap, is_at, WritesThrough}
use Rattle.std.specs.FinMap as map
use Rattle.std.specs.FinMap.{find}
use Rattle.file_records.specs.declared.file.File.{File}
use Rattle.card_files.specs.State.{Tree, changed_at, changed_giving}

abbrev pub by_path : List ℕ → List ℕ → Ordering
by_path = slice_cmp nat_cmp

pub find-lookup : (q : List ℕ) (es : List (List ℕ × File)) → find by_path q es ≡ lookup (is_at (by_path q)) es
find-lookup q [] = refl
find-lookup q (e ∷ es) = ap (λ rest. cond (eq_by_cmp by_path q e.0) (Some e.1) rest) (find-lookup q es)

-- the finite map of a map's entries
abbrev pub tree_of : List (List ℕ × File) → Tree
tree_of es = map.from_entries es

pub get-tree_of : (es : List (List ℕ × File)) (q : List ℕ) → map.get (tree_of es) q ≡ lookup (is_at (by_path q)) es
get-tree_of es q = map.get-from_entries nat_list_cmp_total es q ∙ find-lookup q es

pub distinct : map.IsAntisymmetric by_path
distinct = map.slice_cmp-IsAntisymmetric map.nat_cmp-IsAntisymmetric

-- a look-up, after what stands at one path was changed
changed : (old new : List (List ℕ × File)) (path : List ℕ) (w : Option File) (q : List ℕ)
    → lookup (is_at (by_path q)) new ≡ cond (is_at (by_path path) q) w (lookup (is_at (by_path q)) old)
    → map.get (tree_of new) q ≡ cond (eq_by_cmp by_path q path) w (map.get (tree_of old) q)
changed old new path w q h =
    get-tree_of new q
    ∙ h
    ∙ ap (λ b. cond b w (lookup (is_at (by_path q)) old)) ((eq_by_cmp_equiv nat_list_cmp_total).symm path q)
    ∙ ap (λ found. cond (eq_by_cmp by_path q path) w found) (sym (get-tree_of old q))

-- a map in which one file was put, or changed
pub tree_of-updated : (old new : List (List ℕ × File)) (path : List ℕ) (file : File)
    → ((q : List ℕ) → lookup (is_at (by_path q)) new ≡ cond (is_at (by_path path) q) (Some file) (lookup (is_at (by_path q)) old))
    → tree_of new ≡ map.insert (tree_of old) path file
tree_of-updated old new path file updates =
    map.same_map nat_list_cmp_total distinct (tree_of new) (map.insert (tree_of old) path file)
    (λ q. changed old new path (Some file) q (updates q) ∙ sym (map.get-insert nat_list_cmp_total (tree_of old) path file q))

-- a map from which one file was taken
pub tree_of-removed : (old new : List (List ℕ × File)) (path : List ℕ)
    → ((q : List ℕ) → lookup (is_at (by_path q)) new ≡ cond (is_at (by_path path) q) None (lookup (is_at (by_path q)) old))
    → tree_of new ≡ map.remove (tree_of old) path
tree_of-removed old new path updates =
    map.same_map nat_list_cmp_total distinct (tree_of new) (map.remove (tree_of old) path)
    (λ q. changed old new path None q (updates q) ∙ sym (map.get-remove nat_list_cmp_total (tree_of old) path q))

-- what a map's look-up found is what the finite map has
pub found-in : (es : List (List ℕ × File)) (files : Tree) (path : List ℕ) (found : Option File) → tree_of es ≡ files → found ≡ lookup (is_at (by_path path)) es → found ≡ map.get files path
found-in es files path found is h = h ∙ sym (get-tree_of es path) ∙ ap (λ (t : Tree). map.get t path) is

-- a file that was written through a map's loan
pub lent : (old new : BTreeMap (List ℕ) File) (files : Tree) (path : List ℕ) (file w : File) → tree_of old.entries ≡ files → Some file ≡ lookup (is_at (by_path path)) old.entries → WritesThrough by_path (by_path path) old w new → tree_of new.entries ≡ map.insert files path w
lent old new files path file w is found writes =
    let P : Option File → Type 0 = λ o. IsSome o in
    let updates = writes.3 (subst P found refl) in
    tree_of-updated old.entries new.entries path w updates.0 ∙ ap (λ (t : Tree). map.insert t path w) is

same-cond : (b : Bool) (x y : Option File) → (b ≡ true → x ≡ y) → cond b x y ≡ y
same-cond true x y h = h refl
same-cond false x y h = refl

pub is_eq-Equal : (o : Ordering) → is_eq o ≡ true → o ≡ Equal
is_eq-Equal Less e = cc
is_eq-Equal Equal e = refl
is_eq-Equal Greater e = cc

-- a file put in its own place changes nothing
pub insert-same : (files : Tree) (path : List ℕ) (file : File) → Some file ≡ map.get files path → map.insert files path file ≡ files
insert-same files path file found =
    map.same_map nat_list_cmp_total distinct (map.insert files path file) files
    (λ q. map.get-insert nat_list_cmp_total files path file q
    ∙ same-cond (eq_by_cmp by_path q path) (Some file) (map.get files q)
    (λ e. found ∙ ap (λ p. map.get files p) (sym (distinct q path (is_eq-Equal (by_path q path) e)))))

-- the steps of a change, from what was found at the path
step : Tree → List ℕ → (File → Result File Refusal) → Option File → Result Tree Refusal
step files path change found = ok_or found NoCurrentEf >>= (λ file. change file >>= (λ new. Ok (map.insert files path new)))

stepped : Tree → List ℕ → Result File Refusal → Result Tree Refusal
stepped files path made = made >>= (λ new. Ok (map.insert files path new))

pub changed-none : (files : Tree) (path : List ℕ) (change : File → Result File Refusal) → None ≡ map.get files path → changed_at files path change ≡ Err NoCurrentEf
unfolding step
changed-none files path change none = ap (step files path change) (sym none)

pub changed-some : (result : Result (Unit {0}) Refusal) (files after : Tree) (path : List ℕ) (change : File → Result File Refusal) (before new : File) → Some before ≡ map.get files path → Makes before new result (change before) → after ≡ map.insert files path new → Makes files after result (changed_at files path change)
unfolding step stepped
changed-some (Ok done) files after path change before new found made is =
    ap (step files path change) (sym found) ∙ ap (stepped files path) made ∙ ap Ok (sym is)
changed-some (Err refusal) files after path change before new found made is = (
  ap (step files path change) (sym found) ∙ ap (stepped files path) made.0,
  is ∙ ap (λ (f : File). map.insert files path f) made.1 ∙ insert-same files path before found,
)

step_giving : Tree → List ℕ → (File → Result (File × List ℕ) Refusal) → Option File → Result (Tree × List ℕ) Refusal
step_giving files path change found = ok_or found NoCurrentEf >>= (λ file. change file >>= (λ new. Ok (map.insert files path new.0, new.1)))

stepped_giving : Tree → List ℕ → Result (File × List ℕ) Refusal → Result (Tree × List ℕ) Refusal
stepped_giving files path made = made >>= (λ new. Ok (map.insert files path new.0, new.1))

pub giving-none : (files : Tree) (path : List ℕ) (change : File → Result (File × List ℕ) Refusal) → None ≡ map.get files path → changed_giving files path change ≡ Err NoCurrentEf
unfolding step_giving
giving-none files path change none = ap (step_giving files path change) (sym none)

pub giving-some : {A : Type 0} (view : A → List ℕ) (result : Result A Refusal) (files after : Tree) (path : List ℕ) (change : File → Result (File × List ℕ) Refusal) (before new : File) → Some before ≡ map.get files path → MakesAndGives view before new result (change before) → after ≡ map.insert files path new → MakesAndGives view files after result (changed_giving files path change)
unfolding step_giving stepped_giving
giving-some view (Ok value) files after path change before new found made is =
    ap (step_giving files path change) (sym found) ∙ ap (stepped_giving files path) made ∙ ap (λ (t : Tree). Ok (t, view value)) (sym is)
giving-some view (Err refusal) files after path change before new found made is = (
  ap (step_giving files path change) (sym found) ∙ ap (stepped_giving files path) made.0,
  is ∙ ap (λ (f : File). map.insert files path f) made.1 ∙ insert-same files path before found,
)
