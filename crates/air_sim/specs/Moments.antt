-- The moments of a simulated site: each is what the site had then, and what happened at its end.
use Rattle.std.specs.Prelude.{ℕ, zero, suc, List, [], ◌∷◌}

-- the moment with this number, from 0, among those that are past; where that is none of them, the one that is now
abbrev pub moment_at : {X : Type 0} → List X → X → ℕ → X
moment_at [] now k = now
moment_at (past ∷ later) now zero = past
moment_at (past ∷ later) now (suc k) = moment_at later now k
