-- Keysets and their numbers.
use Rattle.std.proofs.Common.{◌≡◌, ℕ, Bool, true, false, ◌||◌, cond, nat_eq, find, option_map, Option, Some, None, List, [], ◌∷◌, refl, ap}
use Rattle.ota_core.specs.declared.keysets.KeysetFacts.{KeysetFacts}
use Rattle.ota_core.specs.KeysetList.{has_kvn}
use Rattle.applet_registry.specs.State.{keyset_in}

-- where no keyset is found, none has the number
pub none_found : (keysets : List (ℕ × KeysetFacts)) (kvn : ℕ) → keyset_in keysets kvn ≡ None → has_kvn kvn keysets ≡ false
none_found [] kvn none = refl
none_found (keyset ∷ keysets) kvn none =
    elim (nat_eq keyset.0 kvn) as (λ b. option_map (λ (k : ℕ × KeysetFacts). k.1) (cond b (Some keyset) (find (λ (k : ℕ × KeysetFacts). nat_eq k.0 kvn) keysets)) ≡ None → (b || has_kvn kvn keysets) ≡ false) [
      | true ↦ λ e. cc
      | false ↦ λ e. none_found keysets kvn e
    ] none
