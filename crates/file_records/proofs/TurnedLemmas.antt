-- Records that begin in the middle of a table.
use Rattle.std.proofs.Common.{length-append, length-drop, ◌≡◌, ℕ, zero, suc, ◌+◌, ◌-◌, ◌<◌, ◌≤◌, List, [], ◌∷◌, ◌++◌, length, take, drop, get_or, set, refl, sym, ap, ◌∙◌, inl, inr, arith, append-nil}
use Rattle.std.proofs.lemmas.List.{length-take, take-take, get_or_append_left, get_or-append_right, get_or-drop, get_or-take, set-append_left, set-append_right, drop-set, drop-set-lt, drop-set-add, take-set, take-set-le, drop_all}
use Rattle.std.proofs.lemmas.Bool.{cases_lt}
use Rattle.std.proofs.Math.Seq.{take-set-lt, take-append-add}
use Rattle.file_records.specs.Rows.{turned}

Row : Type 0
Row = List ℕ

-- where the record `k` places behind the first one stands in a table of n records
pub record StandsAt (f n k p : ℕ) : Type 0 where
  pub within : f + k < n → p ≡ f + k
  pub around : n ≤ f + k → p + n ≡ f + k

pub length-turned : (f : ℕ) (rows : List (List ℕ)) → f ≤ length rows → length (turned f rows) ≡ length rows
length-turned f rows h = simp (length-append, length-take, length-drop) (omega arith)

pub turned-at : (f k p : ℕ) (rows : List (List ℕ)) → f < length rows → k < length rows → StandsAt f (length rows) k p → get_or (turned f rows) k [] ≡ get_or rows p []
turned-at f k p rows hf hk at =
    let long : length (drop f rows) ≡ length rows - f = length-drop f rows in
    elim (cases_lt (f + k) (length rows)) [
      | inl h ↦
          get_or_append_left (drop f rows) (take f rows) [] k (omega arith)
          ∙ get_or-drop f rows k []
          ∙ ap (λ j. get_or rows j []) (sym (at.within h))
      | inr h ↦
          let e : k - (length rows - f) ≡ p = omega (arith, at.around h) in
          get_or-append_right (drop f rows) (take f rows) (length rows - f) k [] long (omega arith)
          ∙ ap (λ j. get_or (take f rows) j []) e
          ∙ get_or-take f rows p [] (omega (arith, at.around h))
    ]

pub turned-set : (f k p : ℕ) (rows : List (List ℕ)) (row : List ℕ) → f < length rows → k < length rows → StandsAt f (length rows) k p → turned f (set rows p row) ≡ set (turned f rows) k row
turned-set f k p rows row hf hk at =
    let long : length (drop f rows) ≡ length rows - f = length-drop f rows in
    elim (cases_lt (f + k) (length rows)) [
      | inl h ↦
          ap (λ j. turned f (set rows j row)) (at.within h)
          ∙ ap (λ xs. xs ++ take f (set rows (f + k) row)) (drop-set-add f rows k row)
          ∙ ap (λ xs. set (drop f rows) k row ++ xs) (take-set-le f rows (f + k) row (omega arith))
          ∙ sym (set-append_left (drop f rows) (take f rows) k row (omega arith))
      | inr h ↦
          let e : k - (length rows - f) ≡ p = omega (arith, at.around h) in
          ap (λ xs. xs ++ take f (set rows p row)) (drop-set-lt f rows p row (omega (arith, at.around h)))
          ∙ ap (λ xs. drop f rows ++ xs) (take-set-lt f rows p row (omega (arith, at.around h)))
          ∙ ap (λ j. drop f rows ++ set (take f rows) j row) (sym e)
          ∙ sym (set-append_right (drop f rows) (take f rows) (length rows - f) k row long (omega arith))
    ]

-- a record is written in front of the first one
pub turned-push : (f : ℕ) (rows : List (List ℕ)) (row : List ℕ) → f + 1 < length rows → turned f (set rows f row) ≡ row ∷ take (length rows - 1) (turned (f + 1) rows)
turned-push f rows row h =
    let front : drop f (set rows f row) ≡ row ∷ drop (f + 1) rows = drop-set rows f row (omega arith) in
    let back : take f (set rows f row) ≡ take f rows = take-set rows f row in
    let long : length (drop (f + 1) rows) ≡ length rows - (f + 1) = length-drop (f + 1) rows in
    let kept : take (length rows - 1) (turned (f + 1) rows) ≡ drop (f + 1) rows ++ take f rows =
    ap (λ j. take j (turned (f + 1) rows)) (omega arith)
    ∙ take-append-add (drop (f + 1) rows) (take (f + 1) rows) f
    ∙ ap (λ xs. drop (f + 1) rows ++ xs) (take-take f (f + 1) rows (omega arith)) in
    ap (λ xs. xs ++ take f (set rows f row)) front
    ∙ ap (λ xs. (row ∷ drop (f + 1) rows) ++ xs) back
    ∙ ap (λ xs. row ∷ xs) (sym kept)

-- a record is written at the table's end, where the first one stands at its front
pub turned-push_last : (p : ℕ) (rows : List (List ℕ)) (row : List ℕ) → p + 1 ≡ length rows → turned p (set rows p row) ≡ row ∷ take (length rows - 1) (turned 0 rows)
turned-push_last p rows row e =
    let front : drop p (set rows p row) ≡ row ∷ drop (p + 1) rows = drop-set rows p row (omega arith) in
    let none : drop (p + 1) rows ≡ [] = drop_all (p + 1) rows (omega arith) in
    let back : take p (set rows p row) ≡ take p rows = take-set rows p row in
    let kept : take (length rows - 1) (turned 0 rows) ≡ take p rows =
    ap (λ xs. take (length rows - 1) xs) (append-nil rows) ∙ ap (λ j. take j rows) (omega arith) in
    ap (λ xs. xs ++ take p (set rows p row)) front
    ∙ ap (λ xs. (row ∷ xs) ++ take p (set rows p row)) none
    ∙ ap (λ xs. row ∷ xs) (back ∙ sym kept)

shorter : (n : ℕ) (row : List ℕ) (rows : List (List ℕ)) → 0 < n → row ∷ take (n - 1) rows ≡ take n (row ∷ rows)
shorter zero row rows h = absurd (omega arith)
shorter (suc n) row rows h = let e : suc n - 1 ≡ n = omega arith in ap (λ k. row ∷ take k rows) e

-- a record written in front of the first one, wherever that stands
pub pushed : (first place : ℕ) (rows old new : List (List ℕ)) (row : List ℕ) → turned first rows ≡ old → first < length rows → new ≡ set rows place row → (first ≡ 0 → place + 1 ≡ length rows) → (0 < first → place + 1 ≡ first) → turned place new ≡ take (length old) (row ∷ old)
pushed zero place rows old new row is h written last before =
    let count : length rows ≡ length old = sym (length-turned 0 rows (omega arith)) ∙ ap length is in
    ap (turned place) written
    ∙ turned-push_last place rows row (last refl)
    ∙ ap (λ xs. row ∷ xs) (ap (λ n. take (n - 1) (turned 0 rows)) count ∙ ap (λ xs. take (length old - 1) xs) is)
    ∙ shorter (length old) row old (omega (arith, count, h))
pushed (suc first) place rows old new row is h written last before =
    let count : length rows ≡ length old = sym (length-turned (suc first) rows (omega arith)) ∙ ap length is in
    let same : place ≡ first = omega (arith, before (omega arith)) in
    let next : first + 1 ≡ suc first = omega arith in
    ap (λ p. turned p new) same
    ∙ ap (turned first) (written ∙ ap (λ p. set rows p row) same)
    ∙ turned-push first rows row (omega arith)
    ∙ ap (λ f. row ∷ take (length rows - 1) (turned f rows)) next
    ∙ ap (λ xs. row ∷ xs) (ap (λ n. take (n - 1) (turned (suc first) rows)) count ∙ ap (λ xs. take (length old - 1) xs) is)
    ∙ shorter (length old) row old (omega (arith, count, h))
