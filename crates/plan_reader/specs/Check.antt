-- The first thing that is wrong.
use Rattle.std.specs.Prelude.{Bool, true, false, Option, Some, None, Result, Ok, Err, List, [], ◌∷◌}

-- a test of an input, and what it is refused with where the test finds it wrong
abbrev pub Check : Type 0 → Type 0
Check Fault = Bool × Fault

-- the refusal of the first check, in their order, that finds something wrong
abbrev pub first_wrong : {Fault : Type 0} → List (Check Fault) → Option Fault
first_wrong [] = None
first_wrong ((true, fault) ∷ checks) = Some fault
first_wrong ((false, fault) ∷ checks) = first_wrong checks

-- a reading is wrong where there is none, or where its value is barred
abbrev pub is_wrong : {A : Type 0} → (A → Bool) → Option A → Bool
is_wrong barred None = true
is_wrong barred (Some value) = barred value

-- there is a reading, and its value is such
abbrev pub says : {A : Type 0} → (A → Bool) → Option A → Bool
says holds None = false
says holds (Some value) = holds value

-- the value, or the first fault where there is one
abbrev pub outcome : {A Fault : Type 0} → A → Option Fault → Result A Fault
outcome value None = Ok value
outcome value (Some fault) = Err fault
