use Rattle.std.specs.Prelude.{◌≡◌, ℕ, ◌≤◌, nat_eq, Bool, false, List, [], ◌∷◌}
use Rattle.std.specs.List.{list_any}
use Rattle.ota_core.specs.declared.keysets.KeysetFacts.{KeysetFacts}

-- a keyset of the list has this key version number
abbrev pub has_kvn : ℕ → List (ℕ × KeysetFacts) → Bool
has_kvn kvn keysets = list_any (λ keyset. nat_eq keyset.0 kvn) keysets

-- the key version numbers are 1 to 15 (ETSI TS 102 225, 5.1.2), and none stands twice
abbrev pub IsKeysetList : List (ℕ × KeysetFacts) → Type 0
IsKeysetList [] = Unit {0}
IsKeysetList (keyset ∷ keysets) = (1 ≤ keyset.0) × (keyset.0 ≤ 15) × (has_kvn keyset.0 keysets ≡ false) × IsKeysetList keysets
