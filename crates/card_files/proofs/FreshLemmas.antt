-- The files of a new card are sound.
use Rattle.std.proofs.Common.{◌≡◌, ◌≢◌, ℕ, ◌+◌, ◌<◌, ◌≤◌, lit<, lit≤, Bool, true, false, cond, List, [], ◌∷◌, length, Some, None, refl, sym, ap, subst, ◌∙◌, arith}
use Rattle.std.specs.Ordering.{eq_by_cmp}
use Rattle.std.specs.Cmp.Lexicographic.{nat_list_cmp_total}
use Rattle.std.specs.FinMap as map
use Rattle.file_records.specs.declared.contents.Contents.{Contents}
use Rattle.file_records.specs.declared.contents.Contents.TheVariants.{Folder, Transparent, Linear, Cyclic}
use Rattle.file_records.specs.declared.file.File.{File}
use Rattle.file_records.specs.File.{is_folder, size_in}
use Rattle.card_files.specs.declared.kind.Kind.TheVariants as Kinds
use Rattle.card_files.specs.State.{Tree, is_folder_at, room_of}
use Rattle.card_files.specs.Fresh.{with_new, rows_with, octets_with, fresh_files, fresh_state}
use Rattle.card_files.specs.Sound.{HasForm, IsInPlace, IsTree, IsSound}
use Rattle.card_files.proofs.TreeLemmas.{by_path}
use Rattle.card_files.proofs.RoomLemmas.{held}
use Rattle.card_files.proofs.PlaceLemmas.{Alike, passes, kept-put, put-file, same-path, tree-put}
use Rattle.card_files.proofs.SizeLemmas.{grows}
use Rattle.card_files.proofs.NewLemmas.{distinct-ids, form-of}

-- a tree with at most so many files, which take at most so much of the room
pub record IsBuilt (files : Tree) (count size : ℕ) : Type 0 where
  pub tree : IsTree files
  pub few : map.len files ≤ count
  pub room : room_of files ≤ size

abbrev pub active_file : Bool → Contents → File
active_file remote contents = record { remote = remote; active = true; contents = contents }

none-there : (files : Tree) (path : List ℕ) (new : File) → map.get files path ≡ None → Alike is_folder files path new
none-there files path new none old is = let never : None ≡ Some old = sym none ∙ is in cc

built-more : (files : Tree) (path : List ℕ) (remote : Bool) (contents : Contents) (count size : ℕ) → IsBuilt files count size → map.get files path ≡ None → IsInPlace files path (active_file remote contents)
    → IsBuilt (map.insert files path (active_file remote contents)) (count + 1) (size + size_in contents)
built-more files path remote contents count size h none place =
    let new : File = active_file remote contents in
    let more = grows files path new in
    record {
      tree = tree-put files path new h.tree (none-there files path new none) place;
      few = omega (arith, h.few, more.0);
      room = omega (arith, h.room, more.1);
    }

-- none is found behind another path
absent : (files : Tree) (path : List ℕ) (file : File) (q : List ℕ) → eq_by_cmp by_path q path ≡ false → map.get files q ≡ None → map.get (map.insert files path file) q ≡ None
absent files path file q apart none = map.get-insert nat_list_cmp_total files path file q ∙ ap (λ b. cond b (Some file) (map.get files q)) apart ∙ none

no-entries : (es : List (List ℕ × File)) → length es ≡ 0 → held es ≡ 0
no-entries [] e = refl
no-entries (e ∷ es) is = absurd (omega (arith, is))

nothing : Tree
nothing = map.empty

mf-file : File
mf-file = record { remote = true; active = true; contents = Folder }

mf-there : (files : Tree) → is_folder_at (map.insert files [] mf-file) [] ≡ true
unfolding mf-file
mf-there files = ap (passes is_folder) (map.get-insert nat_list_cmp_total files [] mf-file [])

built-mf : IsBuilt (map.insert map.empty [] (active_file true Folder)) 1 0
unfolding mf-file
built-mf =
    let after : Tree = map.insert map.empty [] (active_file true Folder) in
    let more = grows map.empty [] (active_file true Folder) in
    let count : map.len (map.empty {X = File} {R = by_path}) ≡ 0 = map.len-empty by_path File in
    let size : room_of map.empty ≡ 0 = no-entries (map.entries (map.empty {X = File} {R = by_path})) (sym (map.len-entries (map.empty {X = File} {R = by_path})) ∙ count) in
    record {
      tree = record {
        mf = mf-there map.empty;
        places = λ q file found.
            put-file (eq_by_cmp by_path q []) (active_file true Folder) file (map.get map.empty q) (IsInPlace after q)
            (λ e. let P : List ℕ → Type 0 = λ p. IsInPlace after p (active_file true Folder) in
            subst P (sym (same-path q [] e)) (record { folder = mf-there map.empty; deep = lit≤ tt; id = λ some. absurd (some refl); form = tt }))
            (λ e there. let never : None ≡ Some file = sym (map.get-empty by_path q) ∙ there in cc)
            (sym (map.get-insert nat_list_cmp_total map.empty [] (active_file true Folder) q) ∙ found);
      };
      few = omega (arith, more.0, count);
      room = omega (arith, more.1, size);
    }

one-deep : (b : Bool) → 1 ≤ cond b 3 4
one-deep true = lit≤ tt
one-deep false = lit≤ tt

-- a file right below the MF
below-mf : (files : Tree) (id : ℕ) (file : File) → IsTree files → id < 65536 → id ≢ 0x3F00 → HasForm file.contents → IsInPlace files (id ∷ []) file
below-mf files id file h fits apart form = record {
  folder = h.mf;
  deep = one-deep (is_folder file);
  id = λ some. record { octets = fits; not_mf = apart; not_folder = apart; not_above = apart };
  form = form;
}

-- an EF in a folder of the MF
below-df : (files : Tree) (df id : ℕ) (file : File) → is_folder_at files (df ∷ []) ≡ true → id < 65536 → id ≢ 0x3F00 → id ≢ df → is_folder file ≡ false → HasForm file.contents → IsInPlace files (df ∷ id ∷ []) file
below-df files df id file folder fits apart other ef form = record {
  folder = folder;
  deep = subst (λ (b : Bool). 2 ≤ cond b 3 4) (sym ef) (lit≤ tt);
  id = λ some. record { octets = fits; not_mf = apart; not_folder = other; not_above = apart };
  form = form;
}

pub sound-fresh : IsSound fresh_state
unfolding with_new rows_with octets_with
sound-fresh =
    let mf : Tree = with_new map.empty [] true Folder in
    let iccid : Tree = with_new mf (0x2FE2 ∷ []) false (Transparent (octets_with 10)) in
    let octets : Tree = with_new iccid (0x6FA1 ∷ []) true (Transparent (octets_with 64)) in
    let counter : Tree = with_new octets (0x6FA0 ∷ []) true (Cyclic (rows_with 3 3 0)) in
    let telecom : Tree = with_new counter (0x7F10 ∷ []) true Folder in
    let adn : Tree = with_new telecom (0x7F10 ∷ 0x6F3A ∷ []) true (Linear (rows_with 28 10 255)) in
    let off-mf : (q : List ℕ) → eq_by_cmp by_path q [] ≡ false → map.get mf q ≡ None = λ q e. absent map.empty [] (active_file true Folder) q e (map.get-empty by_path q) in
    let off-iccid : (q : List ℕ) → eq_by_cmp by_path q [] ≡ false → eq_by_cmp by_path q (0x2FE2 ∷ []) ≡ false → map.get iccid q ≡ None
    = λ q a b. absent mf (0x2FE2 ∷ []) (active_file false (Transparent (octets_with 10))) q b (off-mf q a) in
    let off-octets : (q : List ℕ) → eq_by_cmp by_path q [] ≡ false → eq_by_cmp by_path q (0x2FE2 ∷ []) ≡ false → eq_by_cmp by_path q (0x6FA1 ∷ []) ≡ false → map.get octets q ≡ None
    = λ q a b c. absent iccid (0x6FA1 ∷ []) (active_file true (Transparent (octets_with 64))) q c (off-iccid q a b) in
    let off-counter : (q : List ℕ) → eq_by_cmp by_path q [] ≡ false → eq_by_cmp by_path q (0x2FE2 ∷ []) ≡ false → eq_by_cmp by_path q (0x6FA1 ∷ []) ≡ false → eq_by_cmp by_path q (0x6FA0 ∷ []) ≡ false → map.get counter q ≡ None
    = λ q a b c d. absent octets (0x6FA0 ∷ []) (active_file true (Cyclic (rows_with 3 3 0))) q d (off-octets q a b c) in
    let off-telecom : (q : List ℕ) → eq_by_cmp by_path q [] ≡ false → eq_by_cmp by_path q (0x2FE2 ∷ []) ≡ false → eq_by_cmp by_path q (0x6FA1 ∷ []) ≡ false → eq_by_cmp by_path q (0x6FA0 ∷ []) ≡ false → eq_by_cmp by_path q (0x7F10 ∷ []) ≡ false → map.get telecom q ≡ None
    = λ q a b c d f. absent counter (0x7F10 ∷ []) (active_file true Folder) q f (off-counter q a b c d) in
    let b0 : IsBuilt mf 1 0 = built-mf in
    let b1 : IsBuilt iccid 2 10 = built-more mf (0x2FE2 ∷ []) false (Transparent (octets_with 10)) 1 0 b0 (off-mf (0x2FE2 ∷ []) refl)
    (below-mf mf 0x2FE2 (active_file false (Transparent (octets_with 10))) b0.tree (lit< tt) (distinct-ids 0x2FE2 0x3F00 refl) (form-of (Kinds.Transparent 10) (lit< tt))) in
    let b2 : IsBuilt octets 3 74 = built-more iccid (0x6FA1 ∷ []) true (Transparent (octets_with 64)) 2 10 b1 (off-iccid (0x6FA1 ∷ []) refl refl)
    (below-mf iccid 0x6FA1 (active_file true (Transparent (octets_with 64))) b1.tree (lit< tt) (distinct-ids 0x6FA1 0x3F00 refl) (form-of (Kinds.Transparent 64) (lit< tt))) in
    let b3 : IsBuilt counter 4 83 = built-more octets (0x6FA0 ∷ []) true (Cyclic (rows_with 3 3 0)) 3 74 b2 (off-octets (0x6FA0 ∷ []) refl refl refl)
    (below-mf octets 0x6FA0 (active_file true (Cyclic (rows_with 3 3 0))) b2.tree (lit< tt) (distinct-ids 0x6FA0 0x3F00 refl) (form-of (Kinds.Cyclic 3 3) (lit< tt, lit< tt, lit< tt, lit≤ tt))) in
    let b4 : IsBuilt telecom 5 83 = built-more counter (0x7F10 ∷ []) true Folder 4 83 b3 (off-counter (0x7F10 ∷ []) refl refl refl refl)
    (below-mf counter 0x7F10 (active_file true Folder) b3.tree (lit< tt) (distinct-ids 0x7F10 0x3F00 refl) tt) in
    let there : is_folder_at telecom (0x7F10 ∷ []) ≡ true = ap (passes is_folder) (map.get-insert nat_list_cmp_total counter (0x7F10 ∷ []) (active_file true Folder) (0x7F10 ∷ [])) in
    let adn-file : File = active_file true (Linear (rows_with 28 10 255)) in
    let off-adn : map.get telecom (0x7F10 ∷ 0x6F3A ∷ []) ≡ None = off-telecom (0x7F10 ∷ 0x6F3A ∷ []) refl refl refl refl refl in
    let b5 : IsBuilt adn 6 363 = built-more telecom (0x7F10 ∷ 0x6F3A ∷ []) true (Linear (rows_with 28 10 255)) 5 83 b4 off-adn
    (below-df telecom 0x7F10 0x6F3A adn-file there (lit< tt) (distinct-ids 0x6F3A 0x3F00 refl) (distinct-ids 0x6F3A 0x7F10 refl) refl (form-of (Kinds.Linear 28 10) (lit< tt, lit< tt, lit< tt, lit≤ tt))) in
    let still : is_folder_at adn (0x7F10 ∷ []) ≡ true = kept-put is_folder telecom (0x7F10 ∷ 0x6F3A ∷ []) adn-file (none-there telecom (0x7F10 ∷ 0x6F3A ∷ []) adn-file off-adn) (0x7F10 ∷ []) there in
    let off-smsp : map.get adn (0x7F10 ∷ 0x6F42 ∷ []) ≡ None = absent telecom (0x7F10 ∷ 0x6F3A ∷ []) adn-file (0x7F10 ∷ 0x6F42 ∷ []) refl (off-telecom (0x7F10 ∷ 0x6F42 ∷ []) refl refl refl refl refl) in
    let b6 : IsBuilt fresh_files 7 443 = built-more adn (0x7F10 ∷ 0x6F42 ∷ []) true (Linear (rows_with 40 2 255)) 6 363 b5 off-smsp
    (below-df adn 0x7F10 0x6F42 (active_file true (Linear (rows_with 40 2 255))) still (lit< tt) (distinct-ids 0x6F42 0x3F00 refl) (distinct-ids 0x6F42 0x7F10 refl) refl (form-of (Kinds.Linear 40 2) (lit< tt, lit< tt, lit< tt, lit≤ tt))) in
    let few : map.len fresh_files ≤ 256 = omega (arith, b6.few) in
    let room : room_of fresh_files ≤ 32768 = omega (arith, b6.room) in
    record {
      tree = b6.tree;
      selected = record { folder = b6.tree.mf; ef = tt };
      room = record { few = few; room = room };
    }
