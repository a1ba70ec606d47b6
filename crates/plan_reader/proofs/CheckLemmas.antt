-- Checks that find nothing wrong.
use Rattle.std.proofs.Common.{◌≡◌, refl, Bool, true, false, List, [], ◌∷◌, Option, None, Some}
use Rattle.plan_reader.specs.Check.{Check, first_wrong, is_wrong}

-- each check finds nothing wrong
abbrev pub AllRight : {Fault : Type 0} → List (Check Fault) → Type 0
AllRight [] = Unit {0}
AllRight (check ∷ checks) = (check.0 ≡ false) × AllRight checks

pub all-right : {Fault : Type 0} (checks : List (Check Fault)) → first_wrong checks ≡ None → AllRight checks
all-right [] right = tt
all-right ((true, fault) ∷ checks) right = cc right
all-right ((false, fault) ∷ checks) right = (refl, all-right checks right)

-- a reading that isn't wrong has a value that isn't barred
pub right-value : {A : Type 0} (barred : A → Bool) (read : Option A) → is_wrong barred read ≡ false → (value : A) × (read ≡ Some value) × (barred value ≡ false)
right-value barred None right = cc right
right-value barred (Some value) right = (value, refl, right)
