-- How many calls of a disk the opening of a journal makes: how far it takes the clock.
use Rattle.std.specs.Prelude.{◌≡◌, ◌==◌, ℕ, ◌+◌, ◌-◌, ◌<◌, ◌≤◌, if◌then◌else◌, Result, Ok, Err}
use Rattle.disk_model.specs.declared.faults.DiskFault.TheVariants as fault
use Rattle.gate_log.specs.declared.log_errors.LogErr.{LogErr}
use Rattle.gate_log.specs.declared.log_errors.LogErr.TheVariants as log_err
use Rattle.gate_log.specs.Calls.{AreRead, behind_in, calls_of_end}
use Rattle.gate_log.specs.Reading.{Reading}
use Rattle.gate_log.specs.Windows.{windows_in}
use Rattle.counter_journal.specs.JournalReading.{JournalValue}

-- the append of the mark of version 2, where it made the journal longer than its log was up to the gate
abbrev pub calls_of_mark : ℕ → ℕ → ℕ
calls_of_mark log journal = if journal == log then 0 else 4

-- A refusal: a sync, the length, the windows that were read, and where octets lie behind the gate a cut and a sync. Want of
-- memory comes ahead of these two; faults come at any call.
abbrev pub OpeningErrTicks : Reading → ℕ → ℕ → ℕ → LogErr → Type 0
OpeningErrTicks read octets before now log_err.Memory = (before + 2 ≤ now) × (now ≤ before + 2 + windows_in octets)
OpeningErrTicks read octets before now (log_err.DiskFault fault.Failed) = (before < now) × (now ≤ before + 2 + windows_in octets + calls_of_end (behind_in read) + 4)
OpeningErrTicks read octets before now (log_err.DiskFault fault.Memory) = (before ≤ now) × (now ≤ before + 2 + windows_in octets + calls_of_end (behind_in read) + 4)
OpeningErrTicks read octets before now error = (count : ℕ) × AreRead read octets count × (now ≡ before + 2 + count + calls_of_end (behind_in read))

-- the opening of a journal's log, before the mark of version 2 is added
abbrev pub OpenedTicks : {T : Type 0} → Reading → ℕ → ℕ → ℕ → Result T LogErr → Type 0
OpenedTicks read octets before now (Ok value) = (count : ℕ) × AreRead read octets count × (now ≡ before + 2 + count + calls_of_end (behind_in read))
OpenedTicks read octets before now (Err error) = OpeningErrTicks read octets before now error

-- the opening of a journal
abbrev pub OpeningTicks : Reading → ℕ → ℕ → ℕ → Result JournalValue LogErr → Type 0
OpeningTicks read octets before now (Ok journal) =
    (count : ℕ) × AreRead read octets count × (now ≡ before + 2 + count + calls_of_end (behind_in read) + calls_of_mark (octets - behind_in read) journal.length)
OpeningTicks read octets before now (Err error) = OpeningErrTicks read octets before now error
