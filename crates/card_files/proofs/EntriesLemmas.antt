-- The entries of a map in order are those of its finite map: how many there are, and what they add up to.
use Rattle.std.proofs.Common.{◌≡◌, ℕ, Bool, true, false, cond, T, ◌&&◌, List, [], ◌∷◌, length, None, sym, ap, subst, ◌∙◌, filter}
use Rattle.std.specs.declared.cmp.Ordering.{Ordering}
use Rattle.std.specs.declared.cmp.Ordering.TheVariants.{Less, Equal}
use Rattle.std.specs.Ordering.{is_lt}
use Rattle.std.specs.Cmp.Lexicographic.{nat_list_cmp_total}
use Rattle.std.specs.List.{AllByRecursion}
use Rattle.std.specs.List.Sorted.{IsStrictlySortedBy}
use Rattle.std.specs.Map.{keys_of}
use Rattle.std.specs.FinMap as finite
use Rattle.std.specs.FinMap.{is_sorted}
use Rattle.std.specs.FinMap.Entries.{below_all, find-where_key}
use Rattle.file_records.specs.declared.file.File.{File}
use Rattle.card_files.proofs.TreeLemmas.{by_path, tree_of, distinct}

both : (a b : Bool) → T a → T b → T (a && b)
both true b p q = q
both false b p q = absurd p

below : (x : List ℕ) (es : List (List ℕ × File)) → AllByRecursion (λ y. by_path x y ≡ Less) (keys_of es) → T (below_all by_path x es)
below x [] h = tt
below x (e ∷ es) h =
    let P : Ordering → Type 0 = λ o. T (is_lt o) in
    both (is_lt (by_path x e.0)) (below_all by_path x es) (subst P (sym h.0) tt) (below x es h.1)

sorted : (es : List (List ℕ × File)) → IsStrictlySortedBy by_path (keys_of es) → T (is_sorted by_path es)
unfolding IsStrictlySortedBy
sorted [] h = tt
sorted (e ∷ es) h = both (below_all by_path e.0 es) (is_sorted by_path es) (below e.0 es h.0) (sorted es h.1)

pub entries-tree_of : (es : List (List ℕ × File)) → IsStrictlySortedBy by_path (keys_of es) → finite.entries (tree_of es) ≡ es
entries-tree_of es h =
    let same : tree_of es ≡ finite.from_sorted es = finite.same_map nat_list_cmp_total distinct (tree_of es) (finite.from_sorted es)
    (λ q. finite.get-from_entries nat_list_cmp_total es q ∙ sym (finite.get-from_sorted by_path es q (sorted es h))) in
    ap finite.entries same ∙ finite.entries-from_sorted by_path es (sorted es h)

pub len-tree_of : (es : List (List ℕ × File)) → IsStrictlySortedBy by_path (keys_of es) → finite.len (tree_of es) ≡ length es
len-tree_of es h = finite.len-entries (tree_of es) ∙ ap length (entries-tree_of es h)

-- a test on paths that keeps some files
pub tree_of-kept : (es : List (List ℕ × File)) (p : List ℕ → Bool) → tree_of (filter (λ (e : List ℕ × File). p e.0) es) ≡ finite.retain_keys (tree_of es) p
tree_of-kept es p =
    let alike : (q x : List ℕ) → by_path q x ≡ Equal → p x ≡ p q = λ q x e. ap p (sym (distinct q x e)) in
    finite.same_map nat_list_cmp_total distinct (tree_of (filter (λ (e : List ℕ × File). p e.0) es)) (finite.retain_keys (tree_of es) p)
    (λ q. finite.get-from_entries nat_list_cmp_total (filter (λ (e : List ℕ × File). p e.0) es) q
    ∙ find-where_key by_path p q (alike q) es
    ∙ ap (λ found. cond (p q) found None) (sym (finite.get-from_entries nat_list_cmp_total es q))
    ∙ sym (finite.get-retain_keys (tree_of es) p q (alike q)))
