-- What making a log leaves.
use Rattle.std.specs.Prelude.{◌≡◌, ◌≢◌, ◌⊎◌, ℕ, ◌+◌, ◌<◌, ◌≤◌, Bool, true, false, List, [], length, slice_index, Result, Ok, Err}
use Rattle.disk_model.specs.declared.faults.DiskFault.{DiskFault}
use Rattle.gate_log.specs.Append.{CallTicks}
use Rattle.disk_model.specs.Disk.{Meaning, image_now}
use Rattle.gate_log.specs.declared.log_errors.LogErr.{LogErr}
use Rattle.gate_log.specs.declared.log_errors.LogErr.TheVariants as log_err
use Rattle.gate_log.specs.Log.{log_octets}
use Rattle.gate_log.specs.Reading.{Reading, parts_of}
use Rattle.gate_log.specs.Reading.Reading.{Unformatted, NotALog, OtherHead, Damaged, Opened}
use Rattle.gate_log.specs.Making.{IsNew, IsMarked}

-- a log with the head that was asked for, whether its batches are sound or not
abbrev pub IsMade : Reading → Type 0
IsMade (Damaged parts) = Unit {0}
IsMade (Opened parts behind) = Unit {0}
IsMade read = ⊥

-- What making a log answers: what isn't made becomes an empty log, and everything else stays as it is.
abbrev pub FormatAnswer : List ℕ → List ℕ → List ℕ → Result (Unit {0}) LogErr → Type 0
FormatAnswer head old new (Ok done) = ((parts_of head old ≡ Unformatted) × (new ≡ log_octets head [])) ⊎ (IsMade (parts_of head old) × (new ≡ old))
FormatAnswer head old new (Err (log_err.DiskFault fault)) = Unit {0}
FormatAnswer head old new (Err log_err.NotALog) = (parts_of head old ≡ NotALog) × (new ≡ old)
FormatAnswer head old new (Err (log_err.OtherHead rest)) = (parts_of head old ≡ OtherHead rest) × (new ≡ old)
FormatAnswer head old new (Err other) = ⊥

-- the answers of making a log, told or not
abbrev pub IsFormatErr : LogErr → Type 0
IsFormatErr (log_err.DiskFault fault) = Unit {0}
IsFormatErr log_err.NotALog = Unit {0}
IsFormatErr (log_err.OtherHead rest) = Unit {0}
IsFormatErr error = ⊥

-- at a moment of the making of a log
abbrev pub IsBeforeOrNew : {D B C : Type 0} (told : Meaning D B C) → D → List ℕ → List ℕ → Type 0
IsBeforeOrNew told old head image = image_now told old image ⊎ ((parts_of head (told.seen old) ≡ Unformatted) × IsNew head image)

-- whether the octets have a mark of 0
abbrev pub HasMark : Bool → List ℕ → Type 0
HasMark true octets = IsMarked octets
HasMark false octets = 0 < length octets → slice_index octets 0 ≢ 0

-- the calls that make a log behind a sync and a read: the mark 00 and a sync, unless it stands; a cut; the rest and a
-- sync; the mark and a sync
abbrev pub calls_of_making : Bool → ℕ
calls_of_making true = 5
calls_of_making false = 7

-- How far making a log takes the clock: a sync and a read, and where no log is made yet the calls that make one. After a
-- fault no more were made.
pub record MadeTicks (head octets : List ℕ) (before now : ℕ) : Type 0 where
  pub marked : parts_of head octets ≡ Unformatted → IsMarked octets → now ≡ before + 7
  pub unmarked : parts_of head octets ≡ Unformatted → (IsMarked octets → ⊥) → now ≡ before + 9
  pub made : IsMade (parts_of head octets) → now ≡ before + 2

abbrev pub FormatTicks : List ℕ → List ℕ → ℕ → ℕ → Result (Unit {0}) LogErr → Type 0
FormatTicks head octets before now (Ok done) = MadeTicks head octets before now
FormatTicks head octets before now (Err (log_err.DiskFault fault)) = (before ≤ now) × (now ≤ before + 9)
FormatTicks head octets before now (Err other) = now ≡ before + 2

-- how far writing the mark 00 takes the clock, unless it stands
abbrev pub ClearTicks : Bool → ℕ → ℕ → Result (Unit {0}) DiskFault → Type 0
ClearTicks true before now result = (result ≡ Ok tt) × (now ≡ before)
ClearTicks false before now result = CallTicks 2 before now result
