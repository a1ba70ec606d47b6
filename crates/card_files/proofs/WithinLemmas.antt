-- In the order of paths, the files with a path or below it stand one behind the other.
use Rattle.std.proofs.Common.{◌≡◌, ℕ, zero, suc, ◌+◌, ◌-◌, ◌<◌, Bool, true, false, not, cond, ◌&&◌, ◌||◌, nat_eq, List, [], ◌∷◌, take, Option, None, is_some, filter, refl, sym, ap, ◌∙◌, arith}
use Rattle.std.proofs.lemmas.Bool.Decides.{nat_tests}
use Rattle.std.proofs.lemmas.Map.Entries.{lookup-filter-keys}
use Rattle.std.proofs.lemmas.Map.Keys.{sorted_head, sorted_tail}
use Rattle.std.specs.declared.cmp.Ordering.TheVariants.{Less, Equal, Greater}
use Rattle.std.specs.declared.ops.Bound.TheVariants.{Included, Unbounded}
use Rattle.std.specs.Ordering.{nat_cmp, is_le, ordering_then, eq_by_cmp}
use Rattle.std.specs.Cmp.{ranked}
use Rattle.std.specs.Cmp.Lexicographic.{nat_list_cmp_total}
use Rattle.std.specs.List.{AllByRecursion, list_all, prefix_len}
use Rattle.std.specs.List.Sorted.{IsStrictlySortedBy}
use Rattle.std.specs.Map.{keys_of, lookup}
use Rattle.std.specs.BTreeMap.{is_at}
use Rattle.std.specs.FinMap as map
use Rattle.std.specs.BTreeMap.Range.{entries_between}
use Rattle.file_records.specs.declared.file.File.{File}
use Rattle.card_files.specs.State.{Tree}
use Rattle.card_files.specs.Commands.{is_within}
use Rattle.card_files.proofs.TreeLemmas.{by_path, distinct, is_eq-Equal}

apart : (p y : ℕ) (b : Bool) → p < y → (nat_eq p y && b) ≡ false
apart p y b h = grind (arith, nat_tests)

above : (p y : ℕ) (b : Bool) → y < p → (nat_eq p y && b) ≡ false
above p y b h = grind (arith, nat_tests)

same : (p x : ℕ) (b : Bool) → p ≡ x → (nat_eq p x && b) ≡ b
same p x b h = grind (arith, nat_tests)

-- nothing below a path comes before it
pub before-within : (path q : List ℕ) → is_le (by_path path q) ≡ false → is_within path q ≡ false
before-within [] [] h = cc
before-within [] (y ∷ ys) h = cc
before-within (p ∷ ps) [] h = refl
before-within (p ∷ ps) (y ∷ ys) h =
    elim (nat_cmp p y) as (λ r. r ≡ nat_cmp p y → is_le (ordering_then r (by_path ps ys)) ≡ false → (nat_eq p y && is_within ps ys) ≡ false) [
      | Less ↦ λ e k. cc
      | Equal ↦ λ e k. same p y (is_within ps ys) (ranked p y Equal e) ∙ before-within ps ys k
      | Greater ↦ λ e k. above p y (is_within ps ys) (ranked p y Greater e)
    ] refl h

-- behind a path that comes after it and isn't below it, nothing is
pub past-within : (path e q : List ℕ) → is_le (by_path path e) ≡ true → is_within path e ≡ false → by_path e q ≡ Less → is_within path q ≡ false
past-within [] e q h out less = cc
past-within (p ∷ ps) [] q h out less = cc
past-within (p ∷ ps) (x ∷ xs) [] h out less = refl
past-within (p ∷ ps) (x ∷ xs) (y ∷ ys) h out less =
    elim (nat_cmp p x) as (λ r. r ≡ nat_cmp p x → is_le (ordering_then r (by_path ps xs)) ≡ true → (nat_eq p y && is_within ps ys) ≡ false) [
      | Less ↦ λ e k.
          elim (nat_cmp x y) as (λ s. s ≡ nat_cmp x y → ordering_then s (by_path xs ys) ≡ Less → (nat_eq p y && is_within ps ys) ≡ false) [
            | Less ↦ λ f l. let a = ranked p x Less e in let b = ranked x y Less f in apart p y (is_within ps ys) (omega arith)
            | Equal ↦ λ f l. let a = ranked p x Less e in let b = ranked x y Equal f in apart p y (is_within ps ys) (omega arith)
            | Greater ↦ λ f l. cc
          ] refl less
      | Equal ↦ λ e k.
          elim (nat_cmp x y) as (λ s. s ≡ nat_cmp x y → ordering_then s (by_path xs ys) ≡ Less → (nat_eq p y && is_within ps ys) ≡ false) [
            | Less ↦ λ f l. let a = ranked p x Equal e in let b = ranked x y Less f in apart p y (is_within ps ys) (omega arith)
            | Equal ↦ λ f l.
                let a = ranked p x Equal e in
                let b = ranked x y Equal f in
                same p y (is_within ps ys) (a ∙ b) ∙ past-within ps xs ys k (sym (same p x (is_within ps xs) a) ∙ out) l
            | Greater ↦ λ f l. cc
          ] refl less
      | Greater ↦ λ e k. cc
    ] refl h

-- the files with a path or below it
abbrev pub those_within : List ℕ → List (List ℕ × File) → List (List ℕ × File)
those_within path es = filter (λ e. is_within path e.0) es

-- the files from a path on
abbrev pub those_from : List ℕ → List (List ℕ × File) → List (List ℕ × File)
those_from path es = entries_between by_path (Included path) Unbounded es

-- the first of these files, up to one that isn't below the path
abbrev pub run_within : List ℕ → List (List ℕ × File) → List (List ℕ × File)
run_within path es = take (prefix_len (λ e. is_within path e.0) es) es

none-past : (path : List ℕ) (k : List ℕ) (es : List (List ℕ × File)) → is_le (by_path path k) ≡ true → is_within path k ≡ false → AllByRecursion (λ q. by_path k q ≡ Less) (keys_of es) → those_within path es ≡ []
none-past path k [] h out later = refl
none-past path k (e ∷ es) h out later =
    ap (λ b. cond b (e ∷ those_within path es) (those_within path es)) (past-within path k e.0 h out later.0) ∙ none-past path k es h out later.1

take-more : (e : List ℕ × File) (es : List (List ℕ × File)) (n : ℕ) → take (1 + n) (e ∷ es) ≡ e ∷ take n es
take-more e es n =
    let more : 1 + n ≡ suc n = omega arith in
    ap (λ m. take m (e ∷ es)) more

pub run-those_within : (path : List ℕ) (es : List (List ℕ × File)) → IsStrictlySortedBy by_path (keys_of es) → those_within path es ≡ run_within path (those_from path es)
run-those_within path [] h = refl
run-those_within path (e ∷ es) h =
    let rest = run-those_within path es (sorted_tail by_path e.0 (keys_of es) h) in
    let later = sorted_head by_path e.0 (keys_of es) h in
    elim (is_le (by_path path e.0)) as (λ b. is_le (by_path path e.0) ≡ b → those_within path (e ∷ es) ≡ run_within path (cond (b && true) (e ∷ those_from path es) (those_from path es))) [
      | true ↦ λ reached.
          elim (is_within path e.0) as (λ w. is_within path e.0 ≡ w → cond w (e ∷ those_within path es) (those_within path es) ≡ take (cond w (1 + prefix_len (λ e. is_within path e.0) (those_from path es)) 0) (e ∷ those_from path es)) [
            | true ↦ λ is. ap (λ (others : List (List ℕ × File)). e ∷ others) rest ∙ sym (take-more e (those_from path es) (prefix_len (λ (e : List ℕ × File). is_within path e.0) (those_from path es)))
            | false ↦ λ is. none-past path e.0 es reached is later
          ] refl
      | false ↦ λ before. ap (λ b. cond b (e ∷ those_within path es) (those_within path es)) (before-within path e.0 before) ∙ rest
    ] refl

-- a test of each file that is below a path is one of those below it
pub all-those_within : (path : List ℕ) (es : List (List ℕ × File)) → list_all (λ (e : List ℕ × File). not (is_within path e.0) || e.1.remote) es ≡ list_all (λ (e : List ℕ × File). e.1.remote) (those_within path es)
all-those_within path [] = refl
all-those_within path (e ∷ es) =
    let rest = all-those_within path es in
    elim (is_within path e.0) as (λ w. ((not w || e.1.remote) && list_all (λ (e : List ℕ × File). not (is_within path e.0) || e.1.remote) es) ≡ list_all (λ (e : List ℕ × File). e.1.remote) (cond w (e ∷ those_within path es) (those_within path es))) [
      | true ↦ ap (λ b. e.1.remote && b) rest
      | false ↦ rest
    ]

-- where there is none below the path, a look-up finds none
pub none-within : (path q : List ℕ) (es : List (List ℕ × File)) → those_within path es ≡ [] → is_within path q ≡ true → lookup (is_at (by_path q)) es ≡ None
none-within path q es none is =
    let alike : (k : List ℕ) → is_at (by_path q) k ≡ true → is_within path k ≡ true = λ k t. ap (is_within path) (sym (distinct q k (is_eq-Equal (by_path q k) t))) ∙ is in
    sym (lookup-filter-keys (is_at (by_path q)) (is_within path) true alike es) ∙ ap (lookup (is_at (by_path q))) none

-- the paths of the files that stay, where those below a path go
abbrev pub stays : List ℕ → List ℕ → Bool
stays path q = not (is_within path q)

alike : (path q x : List ℕ) → by_path q x ≡ Equal → stays path x ≡ stays path q
alike path q x e = ap (stays path) (sym (distinct q x e))

pub get-kept : (path : List ℕ) (files : Tree) (q : List ℕ) → map.get (map.retain_keys files (stays path)) q ≡ cond (stays path q) (map.get files q) None
get-kept path files q = map.get-retain_keys files (stays path) q (alike path q)

gone : (b s : Bool) (found : Option File) → (b ≡ true → s ≡ false) → cond s (cond b None found) None ≡ cond s found None
gone true true found h =
    let never = h refl in
    cc
gone true false found h = refl
gone false s found h = refl

-- one of those that go was taken
pub kept-removed : (path within : List ℕ) (files : Tree) → is_within path within ≡ true → map.retain_keys (map.remove files within) (stays path) ≡ map.retain_keys files (stays path)
kept-removed path within files is =
    map.same_map nat_list_cmp_total distinct (map.retain_keys (map.remove files within) (stays path)) (map.retain_keys files (stays path))
    (λ q.
    let here : eq_by_cmp by_path q within ≡ true → stays path q ≡ false = λ e. ap (stays path) (distinct q within (is_eq-Equal (by_path q within) e)) ∙ ap not is in
    get-kept path (map.remove files within) q
    ∙ ap (λ found. cond (stays path q) found None) (map.get-remove nat_list_cmp_total files within q)
    ∙ gone (eq_by_cmp by_path q within) (stays path q) (map.get files q) here
    ∙ sym (get-kept path files q))

none-goes : (b : Bool) (found : Option File) → (b ≡ true → found ≡ None) → cond (not b) found None ≡ found
none-goes true found h = sym (h refl)
none-goes false found h = refl

-- none of those that go is left
pub kept-all : (path : List ℕ) (files : Tree) → ((q : List ℕ) → is_within path q ≡ true → map.get files q ≡ None) → map.retain_keys files (stays path) ≡ files
kept-all path files none =
    map.same_map nat_list_cmp_total distinct (map.retain_keys files (stays path)) files
    (λ q. get-kept path files q ∙ none-goes (is_within path q) (map.get files q) (none q))

some-files : (path : List ℕ) (files : Tree) (n : ℕ) → map.len files ≡ n → is_some (map.get files path) ≡ true → 0 < n
some-files path files zero e is =
    let none : map.get files path ≡ None = ap (λ (t : Tree). map.get t path) (map.empty_of_len files e) ∙ map.get-empty by_path path in
    let never : true ≡ false = sym is ∙ ap is_some none in
    cc
some-files path files (suc n) e is = omega arith

-- there are fewer files, where one was taken
pub fewer : (path : List ℕ) (files : Tree) → is_some (map.get files path) ≡ true → map.len (map.remove files path) < map.len files
fewer path files is =
    let some : 0 < map.len files = some-files path files (map.len files) refl is in
    let left : map.len (map.remove files path) ≡ map.len files - 1 = map.len-remove nat_list_cmp_total files path ∙ ap (λ b. cond b (map.len files - 1) (map.len files)) is in
    omega (arith, some, left)
