-- What may be chosen at a moment of a site: lines of a log for each number of a card.
use Rattle.std.specs.Prelude.{ℕ, ◌==◌, if◌then◌else◌, List, [], ◌∷◌}
use Rattle.world_core.specs.declared.lines.Line.{Line}

abbrev pub LinesByCard : Type 0
LinesByCard = List (ℕ × List Line)

-- the lines of a card's number
abbrev pub lines_for : LinesByCard → ℕ → List Line
lines_for [] number = []
lines_for (one ∷ others) number = if one.0 == number then one.1 else lines_for others number
