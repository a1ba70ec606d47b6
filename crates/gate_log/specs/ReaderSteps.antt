-- The steps of a reading.
use Rattle.std.specs.Prelude.{◌≡◌, ℕ, ◌+◌, ◌-◌, ◌≤◌, Bool, true, false, is_some, Some, List, [], length, Result, Ok, Err}
use Rattle.gate_log.specs.declared.log_errors.LogErr.{LogErr}
use Rattle.gate_log.specs.declared.log_errors.LogErr.TheVariants as log_err
use Rattle.gate_log.specs.declared.standings.Standing.{Standing}
use Rattle.gate_log.specs.declared.standings.Standing.TheVariants.{Going, Closed, Damaged}
use Rattle.gate_log.specs.Reading.{measured, parts_from}
use Rattle.gate_log.specs.Readers.{ReaderState, has_ended, octets_left}

-- a part was given of the batch, or nothing is left of it
abbrev pub GivesPart : Bool → ReaderState → ReaderState → Type 0
GivesPart true old new =
    (measured old.batch ≡ Some (new.part, new.batch)) × (is_some (parts_from 0 old.batch) ≡ true) × (old.standing ≡ Going) × (new.given ≡ old.given + 1) × (new.windows ≡ old.windows) × (new.standing ≡ old.standing)
GivesPart false old new = (old.batch ≡ []) × (new ≡ old)

-- a part stands in front, or the end was reached
pub record IsReached (old new : ReaderState) : Type 0 where
  pub given : new.given ≡ old.given
  pub fewer : octets_left new ≤ octets_left old
  pub ended : new.batch ≡ [] → has_ended new ≡ true

-- how many octets of parts lie in a room
abbrev pub body_length : Standing → List ℕ → ℕ
body_length Going room = length room - 5
body_length Closed room = 0
body_length Damaged room = 0

-- the log ended in a closed gate, or in a batch that is damaged
abbrev pub EndAnswer : ReaderState → Result (Unit {0}) LogErr → Type 0
EndAnswer reader (Ok done) = reader.standing ≡ Closed
EndAnswer reader (Err error) = (reader.standing ≡ Damaged) × (error ≡ log_err.Damaged (reader.given + 1))
