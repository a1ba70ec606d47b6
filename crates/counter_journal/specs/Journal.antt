-- The head of a journal.
use Rattle.std.specs.Prelude.{ℕ, List, ◌∷◌, ◌++◌, codes}
use Rattle.std.specs.Int.{bytes_high_first}

-- the head of a journal: a name, a version, the lane and the number of lanes
abbrev pub journal_head : ℕ → ℕ → List ℕ
journal_head lane lanes = codes "OTAJ" ++ 0x01 ∷ bytes_high_first 2 lane ++ bytes_high_first 2 lanes
