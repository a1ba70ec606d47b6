-- Keysets of cards.
use Rattle.std.proofs.Common.{ℕ, zero, suc, ◌<◌, ◌≤◌, List, [], ◌∷◌, length, get_or, arith}
use Rattle.ota_core.specs.KeysetList.{IsKeysetList}
use Rattle.ota_core.specs.declared.keysets.KeysetFacts.{KeysetFacts}

-- each key version number of a card's keysets is 1 to 15
pub kvn_in_range : (keysets : List (ℕ × KeysetFacts)) → IsKeysetList keysets → (i : ℕ) (d : ℕ × KeysetFacts) → i < length keysets
    → (1 ≤ (get_or keysets i d).0) × ((get_or keysets i d).0 ≤ 15)
kvn_in_range [] is i d below = absurd (omega arith)
kvn_in_range (keyset ∷ keysets) is zero d below = (is.0, is.1)
kvn_in_range (keyset ∷ keysets) is (suc i) d below = kvn_in_range keysets is.3 i d (omega (arith, below))
