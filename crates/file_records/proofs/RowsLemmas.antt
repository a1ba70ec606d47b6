-- Records in one buffer: where each one stands, and what a write of one changes.
use Rattle.std.proofs.Common.{length-append, ◌≡◌, ℕ, zero, suc, ◌+◌, ◌-◌, ◌*◌, ◌<◌, ◌≤◌, List, [], ◌∷◌, ◌++◌, length, take, drop, get_or, set, replicate, refl, sym, ap, ◌∙◌, arith}
use Rattle.std.proofs.lemmas.List.{length-take, length-drop, take-take, take-append-le, drop-drop, drop-append-le, drop-take, take-replicate, drop-replicate}
use Rattle.std.proofs.Math.Seq.{take-append_seam, drop-append_seam}
use Rattle.std.proofs.Math.Nat.{mul-le-mul_right}
use Rattle.file_records.specs.Binary.{overwritten}
use Rattle.file_records.specs.Rows.{rows_in}

pub length-rows_in : (w n : ℕ) (xs : List ℕ) → length (rows_in w n xs) ≡ n
length-rows_in w zero xs = refl
length-rows_in w (suc n) xs = ap suc (length-rows_in w n (drop w xs))

-- a record of the table lies within the buffer
pub row_within : (w n k at len : ℕ) → k < n → at ≡ k * w → len ≡ w * n → at + w ≤ len
row_within w n k at len h e m =
    let later : suc k * w ≤ n * w = mul-le-mul_right w (omega arith) in
    omega (arith, later)

pub rows_in-at : (w n k at : ℕ) (xs : List ℕ) → k < n → at ≡ k * w → get_or (rows_in w n xs) k [] ≡ take w (drop at xs)
rows_in-at w zero k at xs h e = absurd (omega arith)
rows_in-at w (suc n) zero at xs h e = let z : at ≡ 0 = omega arith in rw z refl
rows_in-at w (suc n) (suc k) at xs h e =
    let later : k * w + w ≡ at = omega arith in
    rows_in-at w n k (k * w) (drop w xs) (omega arith) refl
    ∙ ap (take w) (drop-drop (k * w) w xs ∙ ap (λ m. drop m xs) (omega arith))

pub rows_in-replicate : (w n o m : ℕ) → m ≡ w * n → rows_in w n (replicate m o) ≡ replicate n (replicate w o)
rows_in-replicate w zero o m e = refl
rows_in-replicate w (suc n) o m e =
    let first : take w (replicate m o) ≡ replicate w o = take-replicate w m o (omega arith) in
    let others : rows_in w n (drop w (replicate m o)) ≡ replicate n (replicate w o) =
    ap (rows_in w n) (drop-replicate w m o) ∙ rows_in-replicate w n o (m - w) (omega arith) in
    cc

drop-overwritten : (w at later : ℕ) (xs new : List ℕ) → at ≡ w + later → at ≤ length xs → drop w (overwritten xs at new) ≡ overwritten (drop w xs) later new
drop-overwritten w at later xs new e h =
    let long : w ≤ length (take at xs) = simp length-take (omega arith) in
    drop-append-le w (take at xs) (new ++ drop (at + length new) xs) long
    ∙ ap (λ front. front ++ (new ++ drop (at + length new) xs)) (ap (λ m. drop w (take m xs)) e ∙ drop-take w later xs)
    ∙ ap (λ back. take later (drop w xs) ++ (new ++ back)) (ap (λ m. drop m xs) (omega arith) ∙ sym (drop-drop (later + length new) w xs))

take-overwritten : (w at : ℕ) (xs new : List ℕ) → w ≤ at → at ≤ length xs → take w (overwritten xs at new) ≡ take w xs
take-overwritten w at xs new e h =
    let long : w ≤ length (take at xs) = simp length-take (omega arith) in
    take-append-le w (take at xs) (new ++ drop (at + length new) xs) long ∙ take-take w at xs e

pub rows_in-overwritten : (w n k at : ℕ) (xs new : List ℕ) → k < n → at ≡ k * w → length new ≡ w → length xs ≡ w * n → rows_in w n (overwritten xs at new) ≡ set (rows_in w n xs) k new
rows_in-overwritten w zero k at xs new h e l m = absurd (omega arith)
rows_in-overwritten w (suc n) zero at xs new h e l m =
    let z : at ≡ 0 = omega arith in
    let whole : overwritten xs at new ≡ new ++ drop w xs = ap (λ j. overwritten xs j new) z ∙ ap (λ j. new ++ drop j xs) (omega arith) in
    let first : take w (new ++ drop w xs) ≡ new = ap (λ j. take j (new ++ drop w xs)) (sym l) ∙ take-append_seam new (drop w xs) in
    let others : drop w (new ++ drop w xs) ≡ drop w xs = ap (λ j. drop j (new ++ drop w xs)) (sym l) ∙ drop-append_seam new (drop w xs) in
    ap (rows_in w (suc n)) whole ∙ ap (λ row. row ∷ rows_in w n (drop w (new ++ drop w xs))) first ∙ ap (λ rest. new ∷ rows_in w n rest) others
rows_in-overwritten w (suc n) (suc k) at xs new h e l m =
    let inside : at ≤ length xs = omega (arith, row_within w (suc n) (suc k) at (length xs) h e m) in
    let first : take w (overwritten xs at new) ≡ take w xs = take-overwritten w at xs new (omega arith) inside in
    let others : drop w (overwritten xs at new) ≡ overwritten (drop w xs) (k * w) new = drop-overwritten w at (k * w) xs new (omega arith) inside in
    let rest : rows_in w n (overwritten (drop w xs) (k * w) new) ≡ set (rows_in w n (drop w xs)) k new =
    rows_in-overwritten w n k (k * w) (drop w xs) new (omega arith) refl l (length-drop w xs ∙ omega arith) in
    ap (λ row. row ∷ rows_in w n (drop w (overwritten xs at new))) first ∙ ap (λ row. take w xs ∷ row) (ap (rows_in w n) others ∙ rest)

-- a write within the octets keeps their number
pub length-overwritten : (at : ℕ) (xs new : List ℕ) → at + length new ≤ length xs → length (overwritten xs at new) ≡ length xs
length-overwritten at xs new h = simp (length-append, length-take, length-drop) (omega arith)
