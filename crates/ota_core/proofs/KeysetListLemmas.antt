use Rattle.std.proofs.Common.{◌≡◌, ℕ, ◌≤◌, nat_eq, Bool, false, List, [], ◌∷◌, ◌++◌, refl, arith}
use Rattle.std.proofs.lemmas.Grind.{common_steps}
use Rattle.std.proofs.lemmas.Bool.Decides.{nat_tests}
use Rattle.std.proofs.lemmas.Bool.{or_parts}
use Rattle.ota_core.specs.KeysetList.{has_kvn, IsKeysetList}
use Rattle.ota_core.specs.declared.keysets.KeysetFacts.{KeysetFacts}

-- a number that a list hasn't is still not there behind another one
pub has_kvn-push : (n : ℕ) (keysets : List (ℕ × KeysetFacts)) (kvn : ℕ) (facts : KeysetFacts)
    → has_kvn n keysets ≡ false → nat_eq kvn n ≡ false → has_kvn n (keysets ++ (kvn, facts) ∷ []) ≡ false
has_kvn-push n [] kvn facts none other = grind (arith, common_steps, other)
has_kvn-push n (keyset ∷ keysets) kvn facts none other =
    grind (arith, common_steps, none, has_kvn-push n keysets kvn facts, other)

-- numbers that differ one way round differ the other way
not_other : (t : Bool) (a b : ℕ) → nat_eq b a ≡ t → t ≡ false → nat_eq a b ≡ false
not_other t a b is f = grind (arith, nat_tests, common_steps)

-- a list of keysets stays one when a new number is added
pub IsKeysetList-push : (keysets : List (ℕ × KeysetFacts)) (kvn : ℕ) (facts : KeysetFacts)
    → IsKeysetList keysets → 1 ≤ kvn → kvn ≤ 15 → has_kvn kvn keysets ≡ false → IsKeysetList (keysets ++ (kvn, facts) ∷ [])
IsKeysetList-push [] kvn facts is above below new = (above, below, refl, tt)
IsKeysetList-push (keyset ∷ keysets) kvn facts is above below new =
    let other : nat_eq kvn keyset.0 ≡ false = not_other (nat_eq keyset.0 kvn) kvn keyset.0 refl (or_parts _ _ new).0 in
    let rest : has_kvn kvn keysets ≡ false = (or_parts (nat_eq keyset.0 kvn) (has_kvn kvn keysets) new).1 in
    (is.0, is.1, has_kvn-push keyset.0 keysets kvn facts is.2 other, IsKeysetList-push keysets kvn facts is.3 above below rest)
