-- What the files take of the card's room, and what a change of one file does to it.
use Rattle.std.proofs.Common.{◌≡◌, ℕ, ◌+◌, ◌≤◌, List, length, ◌&&◌, nat_lt, nat_le, Option, Some, None, unwrap_or, option_map, sym, ap, ◌∙◌, arith}
use Rattle.std.proofs.lemmas.Map.Entries.{sum_by-set_value, sum_by-insert_entry, sum_by-remove_entry}
use Rattle.std.specs.Cmp.Lexicographic.{nat_list_cmp_total}
use Rattle.std.specs.Map.{lookup, set_value, remove_entry, keys_of, values_of}
use Rattle.std.specs.BTreeMap.{BTreeMap, is_at, insert_entry, WritesThrough}
use Rattle.std.specs.List.Sorted.{IsStrictlySortedBy}
use Rattle.std.specs.FinMap as map
use Rattle.file_records.specs.declared.file.File.{File}
use Rattle.file_records.specs.File.{size_of}
use Rattle.card_files.specs.State.{Tree, total_of, room_of}
use Rattle.card_files.proofs.TreeLemmas.{by_path, tree_of, get-tree_of}
use Rattle.card_files.proofs.EntriesLemmas.{entries-tree_of, len-tree_of}

-- the octets that the files of these entries hold
abbrev pub held : List (List ℕ × File) → ℕ
held es = total_of (values_of es)

pub room-tree_of : (es : List (List ℕ × File)) → IsStrictlySortedBy by_path (keys_of es) → room_of (tree_of es) ≡ held es
room-tree_of es h = ap held (entries-tree_of es h)

-- a file is written in its place
pub held-written : (old new : BTreeMap (List ℕ) File) (path : List ℕ) (before w : File) → Some before ≡ lookup (is_at (by_path path)) old.entries → WritesThrough by_path (by_path path) old w new → size_of w ≡ size_of before → held new.entries ≡ held old.entries
held-written old new path before w found writes size =
    let moved : held new.entries ≡ held (set_value (is_at (by_path path)) old.entries w) = ap held writes.0 in
    let sums = sum_by-set_value size_of (is_at (by_path path)) old.entries before w (sym found) in
    omega (arith, moved, sums, size)

-- a file is put into its place
pub held-put : (old new : List (List ℕ × File)) (path : List ℕ) (file : File) → IsStrictlySortedBy by_path (keys_of old) → new ≡ insert_entry by_path old path file → held new ≤ held old + size_of file
held-put old new path file h entries =
    let moved : held new ≡ held (insert_entry by_path old path file) = ap held entries in
    let sums = sum_by-insert_entry size_of nat_list_cmp_total old path file h in
    omega (arith, moved, sums)

-- it is put beside the others
pub held-inserted : (old new : List (List ℕ × File)) (files : Tree) (path : List ℕ) (file : File) → tree_of old ≡ files → map.get files path ≡ None → IsStrictlySortedBy by_path (keys_of old) → new ≡ insert_entry by_path old path file → held new ≡ held old + size_of file
held-inserted old new files path file is none h entries =
    let absent : lookup (is_at (by_path path)) old ≡ None = sym (get-tree_of old path) ∙ ap (λ (t : Tree). map.get t path) is ∙ none in
    let nothing : unwrap_or (option_map size_of (lookup (is_at (by_path path)) old)) 0 ≡ 0 = ap (λ (found : Option File). unwrap_or (option_map size_of found) 0) absent in
    let moved : held new ≡ held (insert_entry by_path old path file) = ap held entries in
    let sums = sum_by-insert_entry size_of nat_list_cmp_total old path file h in
    omega (arith, moved, sums, nothing)

-- it is taken away
pub held-removed : (old new : List (List ℕ × File)) (files : Tree) (path : List ℕ) → tree_of old ≡ files → new ≡ remove_entry (is_at (by_path path)) old → held new + unwrap_or (option_map size_of (map.get files path)) 0 ≡ held old
held-removed old new files path is entries =
    let found : lookup (is_at (by_path path)) old ≡ map.get files path = sym (get-tree_of old path) ∙ ap (λ (t : Tree). map.get t path) is in
    let size : unwrap_or (option_map size_of (lookup (is_at (by_path path)) old)) 0 ≡ unwrap_or (option_map size_of (map.get files path)) 0 = ap (λ (found : Option File). unwrap_or (option_map size_of found) 0) found in
    let moved : held new ≡ held (remove_entry (is_at (by_path path)) old) = ap held entries in
    let sums = sum_by-remove_entry size_of (is_at (by_path path)) old in
    omega (arith, moved, sums, size)

-- the tests of the room for one more file
pub room-test : (es : List (List ℕ × File)) (files : Tree) (count taken size : ℕ) → tree_of es ≡ files → IsStrictlySortedBy by_path (keys_of es) → count ≡ length es → taken ≡ held es → (nat_lt count 256 && nat_le (taken + size) 32768) ≡ (nat_lt (map.len files) 256 && nat_le (room_of files + size) 32768)
room-test es files count taken size is h e kept =
    let len : count ≡ map.len files = e ∙ sym (len-tree_of es h) ∙ ap (λ (t : Tree). map.len t) is in
    let room : taken ≡ room_of files = kept ∙ sym (room-tree_of es h) ∙ ap room_of is in
    ap (λ n. nat_lt n 256 && nat_le (taken + size) 32768) len ∙ ap (λ n. nat_lt (map.len files) 256 && nat_le (n + size) 32768) room
