-- A vector whose slice was handed to a call.
use Rattle.std.proofs.Common.{◌≡◌, ℕ, List, [], ◌++◌, length, take, drop, ap, ◌∙◌, arith}
use Rattle.std.proofs.lemmas.List.{take_all, drop_all, append-nil}

-- its elements afterwards are those of the slice
pub written_back : {A : Type 0} (old new : List A) (len : ℕ) → len ≡ length old → length new ≡ length old → take len (new ++ drop (length new) old) ≡ new
written_back {A = A} old new len is same =
    let rest : drop (length new) old ≡ [] = drop_all (length new) old (omega (arith, same)) in
    ap (λ (l : List A). take len (new ++ l)) rest ∙ ap (λ (l : List A). take len l) (append-nil new) ∙ take_all len new (omega (arith, is, same))
