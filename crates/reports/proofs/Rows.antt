use Rattle.std.proofs.Common.{◌≡◌, ℕ, ◌+◌, ◌<◌, Bool, true, false, List, ◌++◌, length, get_or, take, refl, sym, ap, ◌∙◌, arith, append_assoc}
use Rattle.std.specs.List.{flat_map, count_by}
use Rattle.std.proofs.lemmas.List.{append-nil, take_more}
use Rattle.std.proofs.lemmas.List.Sums.{count_by_more_yes, count_by_more_no}
use Rattle.std.proofs.lemmas.Grind.{flat_map-append}

-- a text that goes on with the row of one more element
pub one_row_more : {X : Type 0} (f : X → List ℕ) (front text : List ℕ) (xs : List X) (i : ℕ) (x : X) → i < length xs → x ≡ get_or xs i x
    → text ≡ front ++ flat_map f (take i xs) → text ++ f x ≡ front ++ flat_map f (take (i + 1) xs)
one_row_more f front text xs i x within is so_far =
    rw (so_far, take_more xs i x within, flat_map-append, ← is, append_assoc, append-nil) refl

-- a count that goes on with one more element
pub one_counted_more : {X : Type 0} (test : X → Bool) (xs : List X) (i : ℕ) (x : X) (so_far more : ℕ) → i < length xs → x ≡ get_or xs i x
    → so_far ≡ count_by test (take i xs) → (test x ≡ true → more ≡ 1) → (test x ≡ false → more ≡ 0) → so_far + more ≡ count_by test (take (i + 1) xs)
one_counted_more test xs i x so_far more within is counted one none = by_test (test x) refl
  where
    by_test : (passes : Bool) → test x ≡ passes → so_far + more ≡ count_by test (take (i + 1) xs)
    by_test true passes =
        rw (counted, one passes) (sym (count_by_more_yes test xs i x within (ap test (sym is) ∙ passes)))
    by_test false fails =
        rw (counted, none fails) (zero_more ∙ sym (count_by_more_no test xs i x within (ap test (sym is) ∙ fails)))
      where
        zero_more : count_by test (take i xs) + 0 ≡ count_by test (take i xs)
        zero_more = omega arith
