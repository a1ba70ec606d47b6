-- The records that a CSV reader has left.
use Rattle.std.specs.Prelude.{◌≡◌, ◌+◌, Bool, true, false, ℕ, Option, Some, is_some, unwrap_or, List, [], ◌∷◌, length}
use Rattle.std.specs.Borrow.{Bor}
use Rattle.csv.specs.Machine.{ends_at_end}
use Rattle.csv.specs.Reading.{Ready, default_config, records_from, source_of}
use Rattle.csv.specs.declared.parser.State.{State}
use Rattle.csv.specs.declared.reader.Reader.{Reader}
use Rattle.csv.specs.declared.reader.Trim.TheVariants as trim
use Rattle.plan_reader.specs.JobRows.{Row}

-- every record of a text from a state between records
unfoldable pub rows_from : State → List ℕ → List Row
rows_from state text = records_from default_config (length text + 1) state text

-- the octets that a reader has left
abbrev pub octets_left : Reader (Bor (List ℕ)) → Option (List ℕ)
octets_left reader = source_of (λ source. Some source.now) reader

-- the records that a reader has left
abbrev pub rows_left : Reader (Bor (List ℕ)) → List Row
rows_left reader = rows_from reader.state (unwrap_or (octets_left reader) [])

-- the reader stands between records, with no header row of its own and no trimming
pub record IsReading (reader : Reader (Bor (List ℕ))) : Type 0 where
  pub trim : reader.trim ≡ trim.None
  pub ready : Ready reader
  pub config : reader.config ≡ default_config
  pub source : is_some (octets_left reader) ≡ true
  pub between : ends_at_end reader.state ≡ false

-- the first of these records is taken, if there is one
abbrev pub Takes : List Row → Bool → Row → List Row → Type 0
Takes [] found row rest = found ≡ false
Takes (first ∷ rows) found row rest = (found ≡ true) × (row ≡ first) × (rest ≡ rows)
