-- Files in their places, under a change of the tree.
use Rattle.std.proofs.Common.{◌≡◌, ℕ, zero, suc, ◌-◌, Bool, true, false, not, cond, ◌&&◌, nat_eq, List, [], ◌∷◌, ◌++◌, length, take, Option, Some, None, IfSome, refl, sym, ap, subst, ◌∙◌}
use Rattle.std.specs.Option.{option_map_or}
use Rattle.std.specs.Ordering.{eq_by_cmp}
use Rattle.std.specs.Cmp.Lexicographic.{nat_list_cmp_total}
use Rattle.std.specs.FinMap as map
use Rattle.file_records.specs.declared.file.File.{File}
use Rattle.file_records.specs.File.{is_folder}
use Rattle.card_files.specs.Path.{above}
use Rattle.card_files.specs.State.{Tree, is_folder_at, is_ef_at}
use Rattle.card_files.specs.Sound.{IsInPlace, IsTree, IsSelected}
use Rattle.card_files.specs.Commands.{is_within, ef_without}
use Rattle.card_files.proofs.TreeLemmas.{by_path, distinct, is_eq-Equal}
use Rattle.card_files.proofs.WithinLemmas.{stays, get-kept}

-- what a test says of what was found
abbrev pub passes : (File → Bool) → Option File → Bool
passes test found = option_map_or test found false

-- a file that is put where another one was passes a test as that one did
abbrev pub Alike : (File → Bool) → Tree → List ℕ → File → Type 0
Alike test files path new = (old : File) → map.get files path ≡ Some old → test new ≡ test old

kept-there : (test : File → Bool) (found : Option File) (new : File) → ((old : File) → found ≡ Some old → test new ≡ test old) → passes test found ≡ true → test new ≡ true
kept-there test None new alike h = cc
kept-there test (Some old) new alike h = alike old refl ∙ h

kept-cond : (test : File → Bool) (b : Bool) (new : File) (found : Option File) → (b ≡ true → test new ≡ true) → passes test found ≡ true → passes test (cond b (Some new) found) ≡ true
kept-cond test true new found there h = there refl
kept-cond test false new found there h = h

pub same-path : (q path : List ℕ) → eq_by_cmp by_path q path ≡ true → q ≡ path
same-path q path e = distinct q path (is_eq-Equal (by_path q path) e)

-- what passed a test passes it after a file was put
pub kept-put : (test : File → Bool) (files : Tree) (path : List ℕ) (new : File) → Alike test files path new → (q : List ℕ) → passes test (map.get files q) ≡ true → passes test (map.get (map.insert files path new) q) ≡ true
kept-put test files path new alike q h =
    ap (passes test) (map.get-insert nat_list_cmp_total files path new q)
    ∙ kept-cond test (eq_by_cmp by_path q path) new (map.get files q)
    (λ e. kept-there test (map.get files path) new alike (ap (λ p. passes test (map.get files p)) (sym (same-path q path e)) ∙ h))
    h

-- a file stays in its place, where folders stay
pub in-place : (files after : Tree) (path : List ℕ) (file : File) → (is_folder_at files (above path) ≡ true → is_folder_at after (above path) ≡ true) → IsInPlace files path file → IsInPlace after path file
in-place files after path file grows h = record { folder = grows h.folder; deep = h.deep; id = h.id; form = h.form }

pub same-file : (x y : File) → Some x ≡ Some y → x ≡ y
same-file x y e = ap (λ (o : Option File). option_map_or (λ (f : File). f) o x) e

pub put-file : (b : Bool) (new file : File) (found : Option File) (P : File → Type 0) → (b ≡ true → P new) → (b ≡ false → found ≡ Some file → P file) → cond b (Some new) found ≡ Some file → P file
put-file true new file found P here there e = subst P (same-file new file e) (here refl)
put-file false new file found P here there e = there refl e

-- a file was put into its place, or in the place of one of its kind
pub tree-put : (files : Tree) (path : List ℕ) (new : File) → IsTree files → Alike is_folder files path new → IsInPlace files path new → IsTree (map.insert files path new)
tree-put files path new h alike place =
    let after : Tree = map.insert files path new in
    let grows : (q : List ℕ) → is_folder_at files q ≡ true → is_folder_at after q ≡ true = kept-put is_folder files path new alike in
    record {
      mf = grows [] h.mf;
      places = λ q file found.
          put-file (eq_by_cmp by_path q path) new file (map.get files q) (IsInPlace after q)
          (λ e. let P : List ℕ → Type 0 = λ p. IsInPlace after p new in
          subst P (sym (same-path q path e)) (in-place files after path new (grows (above path)) place))
          (λ e there. in-place files after q file (grows (above q)) (h.places q file there))
          (sym (map.get-insert nat_list_cmp_total files path new q) ∙ found);
    }

is_ef : File → Bool
is_ef file = not (is_folder file)

alike-ef : (files : Tree) (path : List ℕ) (new : File) → Alike is_folder files path new → Alike (λ (f : File). not (is_folder f)) files path new
alike-ef files path new alike old found = ap not (alike old found)

pub selected-put : (files : Tree) (path : List ℕ) (new : File) (folder : List ℕ) (ef : Option (List ℕ)) → Alike is_folder files path new → IsSelected files folder ef → IsSelected (map.insert files path new) folder ef
selected-put files path new folder None alike h = record { folder = kept-put is_folder files path new alike folder h.folder; ef = tt }
selected-put files path new folder (Some ef) alike h = record {
  folder = kept-put is_folder files path new alike folder h.folder;
  ef = (kept-put (λ (f : File). not (is_folder f)) files path new (alike-ef files path new alike) ef h.ef.0, h.ef.1);
}

-- below a path

and-true : (a b c : Bool) → (b ≡ true → c ≡ true) → (a && b) ≡ true → (a && c) ≡ true
and-true true b c f h = f h
and-true false b c f h = h

within-nothing : (path : List ℕ) → is_within [] path ≡ true
within-nothing [] = refl
within-nothing (x ∷ xs) = refl

-- a file lies below a path, if a front part of its path does
within-front : (path q : List ℕ) (n : ℕ) → is_within path (take n q) ≡ true → is_within path q ≡ true
within-front [] q n h = within-nothing q
within-front (p ∷ ps) [] zero h = h
within-front (p ∷ ps) [] (suc n) h = h
within-front (p ∷ ps) (y ∷ ys) zero h = cc
within-front (p ∷ ps) (y ∷ ys) (suc n) h = and-true (nat_eq p y) (is_within ps (take n ys)) (is_within ps ys) (within-front ps ys n) h

not-within : (a b : Bool) → (a ≡ true → b ≡ true) → not b ≡ true → not a ≡ true
not-within true b f h = ap not (sym (f refl)) ∙ ap not (f refl) ∙ sym (ap not (f refl)) ∙ h
not-within false b f h = refl

stays-above : (path q : List ℕ) → stays path q ≡ true → stays path (above q) ≡ true
stays-above path q h = not-within (is_within path (above q)) (is_within path q) (within-front path q (length q - 1)) h

no-more : (b : Bool) → (b && false) ≡ false
no-more true = refl
no-more false = refl

-- no folder lies below a file in it
pub outside-child : (folder : List ℕ) (id : ℕ) → is_within (folder ++ id ∷ []) folder ≡ false
outside-child [] id = refl
outside-child (x ∷ xs) id = ap (λ b. nat_eq x x && b) (outside-child xs id) ∙ no-more (nat_eq x x)

kept-found : (s : Bool) (found : Option File) (test : File → Bool) → s ≡ true → passes test found ≡ true → passes test (cond s found None) ≡ true
kept-found true found test e h = h
kept-found false found test e h = cc

found-kept : (s : Bool) (found : Option File) (file : File) → cond s found None ≡ Some file → (s ≡ true) × (found ≡ Some file)
found-kept true found file e = (refl, e)
found-kept false found file e = cc

-- what stays passes a test as before
kept-without : (test : File → Bool) (files : Tree) (path q : List ℕ) → stays path q ≡ true → passes test (map.get files q) ≡ true → passes test (map.get (map.retain_keys files (stays path)) q) ≡ true
kept-without test files path q s h = ap (passes test) (get-kept path files q) ∙ kept-found (stays path q) (map.get files q) test s h

stays-mf : (path folder : List ℕ) → is_within path folder ≡ false → stays path [] ≡ true
stays-mf [] folder out = let never : true ≡ false = sym (within-nothing folder) ∙ out in cc
stays-mf (p ∷ ps) folder out = refl

-- the files below a path went, and the current folder doesn't lie there
pub tree-without : (files : Tree) (path folder : List ℕ) → is_within path folder ≡ false → IsTree files → IsTree (map.retain_keys files (stays path))
tree-without files path folder out h =
    let after : Tree = map.retain_keys files (stays path) in
    record {
      mf = kept-without is_folder files path [] (stays-mf path folder out) h.mf;
      places = λ q file found.
          let there = found-kept (stays path q) (map.get files q) file (sym (get-kept path files q) ∙ found) in
          in-place files after q file (kept-without is_folder files path (above q) (stays-above path q there.0)) (h.places q file there.1);
    }

ef-stays : (b : Bool) (files after : Tree) (folder path : List ℕ) → (b ≡ false → is_ef_at after path ≡ true) → above path ≡ folder → IfSome (cond b None (Some path)) (λ ef. (is_ef_at after ef ≡ true) × (above ef ≡ folder))
ef-stays true files after folder path there is = tt
ef-stays false files after folder path there is = (there refl, is)

pub selected-without : (files : Tree) (path folder : List ℕ) (ef : Option (List ℕ)) → is_within path folder ≡ false → IsSelected files folder ef → IsSelected (map.retain_keys files (stays path)) folder (ef_without path ef)
selected-without files path folder None out h = record { folder = kept-without is_folder files path folder (ap not out) h.folder; ef = tt }
selected-without files path folder (Some ef) out h = record {
  folder = kept-without is_folder files path folder (ap not out) h.folder;
  ef = ef-stays (is_within path ef) files (map.retain_keys files (stays path)) folder ef
      (λ e. kept-without (λ (f : File). not (is_folder f)) files path ef (ap not e) h.ef.0)
      h.ef.1;
}

-- the selection is forgotten first
pub selected-forgotten : (files : Tree) (path folder : List ℕ) (ef : Option (List ℕ)) → IsSelected files folder ef → IsSelected files folder (ef_without path ef)
selected-forgotten files path folder None h = record { folder = h.folder; ef = tt }
selected-forgotten files path folder (Some ef) h = record {
  folder = h.folder;
  ef = ef-stays (is_within path ef) files files folder ef (λ e. h.ef.0) h.ef.1;
}
