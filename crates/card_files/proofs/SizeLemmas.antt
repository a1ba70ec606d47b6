-- How many files there are, and what they take of the card's room, after a change of the tree.
use Rattle.std.proofs.Common.{◌≡◌, ℕ, ◌+◌, ◌<◌, ◌≤◌, Bool, true, false, cond, T, ◌&&◌, List, [], ◌∷◌, length, filter, Option, Some, None, is_some, unwrap_or, option_map, refl, sym, ap, ◌∙◌, arith}
use Rattle.std.proofs.lemmas.List.Sums.{sum_by-cons}
use Rattle.std.specs.declared.cmp.Ordering.{Ordering}
use Rattle.std.specs.declared.cmp.Ordering.TheVariants.{Less, Equal, Greater}
use Rattle.std.specs.Ordering.{is_lt, is_eq}
use Rattle.std.specs.Cmp.Lexicographic.{nat_list_cmp_total}
use Rattle.std.specs.Map.{values_of}
use Rattle.std.specs.FinMap as map
use Rattle.std.specs.FinMap.{find, put, is_sorted}
use Rattle.std.specs.FinMap.Entries.{by_order, below_all, is_sorted-where_key, find-where_key}
use Rattle.file_records.specs.declared.file.File.{File}
use Rattle.file_records.specs.File.{size_of}
use Rattle.card_files.specs.State.{Tree, room_of}
use Rattle.card_files.specs.Sound.{HasRoom}
use Rattle.card_files.proofs.TreeLemmas.{by_path, distinct}
use Rattle.card_files.proofs.RoomLemmas.{held}
use Rattle.card_files.proofs.WithinLemmas.{stays}

-- what a file that was found takes of the room
abbrev pub size_found : Option File → ℕ
size_found found = unwrap_or (option_map size_of found) 0

first : (a b : Bool) → T (a && b) → T a
first true b p = tt
first false b p = p

second : (a b : Bool) → T (a && b) → T b
second true b p = p
second false b p = absurd p

less : (o : Ordering) → T (is_lt o) → o ≡ Less
less Less p = refl
less Equal p = absurd p
less Greater p = absurd p

held-cons : (e : List ℕ × File) (es : List (List ℕ × File)) → held (e ∷ es) ≡ size_of e.1 + held es
held-cons e es = sum_by-cons size_of e.1 (values_of es)

-- none is found below a path that all others are behind
none-before : (k x : List ℕ) (es : List (List ℕ × File)) → by_path k x ≡ Less → T (below_all by_path x es) → find by_path k es ≡ None
none-before k x [] before h = refl
none-before k x (e ∷ es) before h =
    ap (λ o. cond (is_eq o) (Some e.1) (find by_path k es)) (nat_list_cmp_total.trans k x e.0 before (less (by_path x e.0) (first (is_lt (by_path x e.0)) (below_all by_path x es) h)))
    ∙ none-before k x es before (second (is_lt (by_path x e.0)) (below_all by_path x es) h)

held-put_in : (k : List ℕ) (v : File) (es : List (List ℕ × File)) → T (is_sorted by_path es) → held (put by_path k v es) + size_found (find by_path k es) ≡ held es + size_of v
held-put_in k v [] h = let one = held-cons (k, v) [] in omega (arith, one)
held-put_in k v (e ∷ es) h =
    let below = first (below_all by_path e.0 es) (is_sorted by_path es) h in
    let rest = held-put_in k v es (second (below_all by_path e.0 es) (is_sorted by_path es) h) in
    let whole = held-cons e es in
    elim (by_path k e.0) as (λ r. by_path k e.0 ≡ r → held (by_order r ((k, v) ∷ e ∷ es) ((e.0, v) ∷ es) (e ∷ put by_path k v es)) + size_found (cond (is_eq r) (Some e.1) (find by_path k es)) ≡ held (e ∷ es) + size_of v) [
      | Less ↦ λ before.
          let new = held-cons (k, v) (e ∷ es) in
          let none : size_found (find by_path k es) ≡ 0 = ap size_found (none-before k e.0 es before below) in
          omega (arith, new, none)
      | Equal ↦ λ is. let new = held-cons (e.0, v) es in omega (arith, new, whole)
      | Greater ↦ λ behind. let new = held-cons e (put by_path k v es) in omega (arith, new, whole, rest)
    ] refl

-- a file was put among the others, or in the place of one of them
pub room-put : (files : Tree) (path : List ℕ) (file : File) → room_of (map.insert files path file) + size_found (map.get files path) ≡ room_of files + size_of file
room-put files path file =
    ap (λ (es : List (List ℕ × File)). held es + size_found (map.get files path)) (map.entries-insert nat_list_cmp_total files path file)
    ∙ ap (λ found. held (put by_path path file (map.entries files)) + size_found found) (map.get-entries files path)
    ∙ held-put_in path file (map.entries files) (map.entries_sorted files)

filtered : (p : List ℕ → Bool) (es : List (List ℕ × File)) → (held (filter (λ (e : List ℕ × File). p e.0) es) ≤ held es) × (length (filter (λ (e : List ℕ × File). p e.0) es) ≤ length es)
filtered p [] = (omega arith, omega arith)
filtered p (e ∷ es) =
    let rest = filtered p es in
    let left : List (List ℕ × File) = filter (λ (e : List ℕ × File). p e.0) es in
    let whole = held-cons e es in
    let kept = held-cons e left in
    elim (p e.0) as (λ b. (held (cond b (e ∷ left) left) ≤ held (e ∷ es)) × (length (cond b (e ∷ left) left) ≤ length (e ∷ es))) [
      | true ↦ (omega (arith, whole, kept, rest.0), omega (arith, rest.1))
      | false ↦ (omega (arith, whole, rest.0), omega (arith, rest.1))
    ]

entries-kept : (files : Tree) (p : List ℕ → Bool) → map.entries (map.retain_keys files p) ≡ filter (λ (e : List ℕ × File). p e.0) (map.entries files)
entries-kept files p =
    let left : List (List ℕ × File) = filter (λ (e : List ℕ × File). p e.0) (map.entries files) in
    let sorted : T (is_sorted by_path left) = is_sorted-where_key by_path p (map.entries files) (map.entries_sorted files) in
    let alike : (q x : List ℕ) → by_path q x ≡ Equal → p x ≡ p q = λ q x e. ap p (sym (distinct q x e)) in
    let same : map.retain_keys files p ≡ map.from_sorted left = map.same_map nat_list_cmp_total distinct (map.retain_keys files p) (map.from_sorted left)
    (λ q. map.get-retain_keys files p q (alike q)
    ∙ ap (λ found. cond (p q) found None) (map.get-entries files q)
    ∙ sym (find-where_key by_path p q (alike q) (map.entries files))
    ∙ sym (map.get-from_sorted by_path left q sorted)) in
    ap map.entries same ∙ map.entries-from_sorted by_path left sorted

-- there is no less room, where files went
pub room-without : (files : Tree) (path : List ℕ) → HasRoom files → HasRoom (map.retain_keys files (stays path))
room-without files path h =
    let left = filtered (stays path) (map.entries files) in
    let es = entries-kept files (stays path) in
    let room : room_of (map.retain_keys files (stays path)) ≡ held (filter (λ (e : List ℕ × File). stays path e.0) (map.entries files)) = ap held es in
    let count : map.len (map.retain_keys files (stays path)) ≡ length (filter (λ (e : List ℕ × File). stays path e.0) (map.entries files)) = map.len-entries (map.retain_keys files (stays path)) ∙ ap length es in
    let was : map.len files ≡ length (map.entries files) = map.len-entries files in
    record { few = omega (arith, h.few, left.1, count, was); room = omega (arith, h.room, left.0, room) }

same-count : (files : Tree) (path : List ℕ) (old new : File) → map.get files path ≡ Some old → map.len (map.insert files path new) ≡ map.len files
same-count files path old new found = map.len-insert nat_list_cmp_total files path new ∙ ap (λ (o : Option File). cond (is_some o) (map.len files) (map.len files + 1)) found

-- a file was put in the place of one of its size
pub room-same : (files : Tree) (path : List ℕ) (old new : File) → map.get files path ≡ Some old → size_of new ≡ size_of old → HasRoom files → HasRoom (map.insert files path new)
room-same files path old new found size h =
    let count = same-count files path old new found in
    let sums = room-put files path new in
    let was : size_found (map.get files path) ≡ size_of old = ap size_found found in
    record { few = omega (arith, count, h.few); room = omega (arith, sums, was, size, h.room) }

pub grows : (files : Tree) (path : List ℕ) (file : File) → (map.len (map.insert files path file) ≤ map.len files + 1) × (room_of (map.insert files path file) ≤ room_of files + size_of file)
grows files path file =
    let sums = room-put files path file in
    let count = map.len-insert nat_list_cmp_total files path file in (
      elim (is_some (map.get files path)) as (λ b. map.len (map.insert files path file) ≡ cond b (map.len files) (map.len files + 1) → map.len (map.insert files path file) ≤ map.len files + 1) [
        | true ↦ λ e. omega (arith, e)
        | false ↦ λ e. omega (arith, e)
      ] count,
      omega (arith, sums),
    )

-- a file was put among the others, for which there was room
pub room-more : (files : Tree) (path : List ℕ) (file : File) → map.len files < 256 → room_of files + size_of file ≤ 32768 → HasRoom (map.insert files path file)
room-more files path file few room =
    let more = grows files path file in
    record { few = omega (arith, more.0, few); room = omega (arith, more.1, room) }
