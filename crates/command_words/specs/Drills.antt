-- What the words of a drill say.
use Rattle.std.specs.Prelude.{ℕ, ◌≤◌, if◌then◌else◌, Option, Some, None, List, [], ◌∷◌, codes}
use Rattle.std.specs.Option.{option_and_then}
use Rattle.std.specs.Str.{bytes_eq}
use Rattle.clap.specs.Words.{Row}
use Rattle.plan_reader.specs.Text.{◌>>=◌}
use Rattle.command_words.specs.Options.{drill_app, rows_by}
use Rattle.command_words.specs.Words.{required_number, lanes_in}
use Rattle.command_words.specs.declared.drills.Drill.{Drill}

-- the greatest number of a generator
abbrev pub LAST_NUMBER : ℕ
LAST_NUMBER = 999999999999999999

-- 1 to 5,000 cards, at most 40,000 jobs, 1 to 64 lanes and 1 to 64 senders
pub record IsInRange (drill : Drill) : Type 0 where
  pub cards : 1 ≤ drill.cards
  pub most_cards : drill.cards ≤ 5000
  pub count : drill.count ≤ 40000
  pub lanes : 1 ≤ drill.lanes
  pub most_lanes : drill.lanes ≤ 64
  pub senders : 1 ≤ drill.senders
  pub most_senders : drill.senders ≤ 64

abbrev pub drill_in : List Row → Option Drill
drill_in rows = do
  number ← required_number 0 LAST_NUMBER (codes "number") rows
  cards ← required_number 1 5000 (codes "cards") rows
  count ← required_number 0 40000 (codes "count") rows
  lanes ← lanes_in rows
  senders ← required_number 1 64 (codes "senders") rows
  Some (record { number = number; cards = cards; count = count; lanes = lanes; senders = senders })

-- the drill that the words say: None where they are no drill's
abbrev pub drill_of : List (List ℕ) → Option Drill
drill_of [] = None
drill_of (name ∷ rest) = if bytes_eq name (codes "drill") then option_and_then drill_in (rows_by drill_app (name ∷ rest)) else None
