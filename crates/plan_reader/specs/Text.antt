-- Steps of a reading that may give nothing.
use Rattle.std.specs.Prelude.{Bool, if◌then◌else◌, Option, Some, None, option_and_then}

-- the second step where the first one gives a value
infixl 10 ◌>>=◌
abbrev pub ◌>>=◌ : {A B : Type 0} → Option A → (A → Option B) → Option B
read >>= next = option_and_then next read

-- the value, where the test holds
abbrev pub only_if : {A : Type 0} → Bool → A → Option A
only_if holds value = if holds then Some value else None
