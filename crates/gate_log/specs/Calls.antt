-- How many calls of a disk the calls of a log make: how far they take its clock. A call that failed is one of them, and
-- one that found no memory isn't.
use Rattle.std.specs.Prelude.{◌≡◌, ◌==◌, ℕ, ◌+◌, ◌-◌, ◌<◌, ◌≤◌, min, if◌then◌else◌, length, Result, Ok, Err}
use Rattle.disk_model.specs.declared.faults.DiskFault.{DiskFault}
use Rattle.disk_model.specs.declared.faults.DiskFault.TheVariants as fault
use Rattle.gate_log.specs.declared.log_errors.LogErr.{LogErr}
use Rattle.gate_log.specs.declared.log_errors.LogErr.TheVariants as log_err
use Rattle.gate_log.specs.Reading.{Reading}
use Rattle.gate_log.specs.Reading.Reading.{Damaged, Opened}
use Rattle.gate_log.specs.Windows.{windows_in}

-- one call was made
abbrev pub OneTick : {T : Type 0} → ℕ → ℕ → Result T LogErr → Type 0
OneTick before now (Err (log_err.DiskFault fault.Memory)) = now ≡ before
OneTick before now result = now ≡ before + 1

-- one window was read, where octets are left; want of memory comes before the call
abbrev pub FirstErrTicks : ℕ → ℕ → ℕ → LogErr → Type 0
FirstErrTicks octets before now (log_err.DiskFault fault.Failed) = (0 < octets) × (now ≡ before + 1)
FirstErrTicks octets before now error = (0 < octets) × (now ≡ before)

abbrev pub FirstTicks : {T : Type 0} → ℕ → ℕ → ℕ → Result T LogErr → Type 0
FirstTicks octets before now (Ok value) = now ≡ before + min 1 octets
FirstTicks octets before now (Err error) = FirstErrTicks octets before now error

-- The beginning of a reading: so many calls, and the first window, where there are octets. Want of memory comes ahead of
-- the window.
abbrev pub BeginErrTicks : ℕ → ℕ → ℕ → ℕ → LogErr → Type 0
BeginErrTicks calls octets before now log_err.Memory = now ≡ before + calls
BeginErrTicks calls octets before now (log_err.DiskFault fault.Failed) = (before < now) × (now ≤ before + calls + min 1 octets)
BeginErrTicks calls octets before now (log_err.DiskFault fault.Memory) = (before ≤ now) × (now < before + calls + min 1 octets)
BeginErrTicks calls octets before now error = now ≡ before + calls + min 1 octets

abbrev pub BeginTicks : {T : Type 0} → ℕ → ℕ → ℕ → ℕ → Result T LogErr → Type 0
BeginTicks calls octets before now (Ok value) = now ≡ before + calls + 1
BeginTicks calls octets before now (Err error) = BeginErrTicks calls octets before now error

-- a cut and a sync, where so many octets lie behind the gate that ends a log
abbrev pub calls_of_end : ℕ → ℕ
calls_of_end behind = if behind == 0 then 0 else 2

abbrev pub CutErrTicks : ℕ → ℕ → ℕ → DiskFault → Type 0
CutErrTicks behind before now fault.Failed = (before < now) × (now ≤ before + calls_of_end behind)
CutErrTicks behind before now fault.Memory = (before ≤ now) × (now < before + calls_of_end behind)

abbrev pub CutTicks : {T : Type 0} → ℕ → ℕ → ℕ → Result T DiskFault → Type 0
CutTicks behind before now (Ok value) = now ≡ before + calls_of_end behind
CutTicks behind before now (Err cut) = CutErrTicks behind before now cut

-- the end of a reading
abbrev pub EndErrTicks : ℕ → ℕ → ℕ → LogErr → Type 0
EndErrTicks behind before now (log_err.DiskFault cut) = CutErrTicks behind before now cut
EndErrTicks behind before now error = now ≡ before

abbrev pub EndTicks : {T : Type 0} → ℕ → ℕ → ℕ → Result T LogErr → Type 0
EndTicks behind before now (Ok value) = now ≡ before + calls_of_end behind
EndTicks behind before now (Err error) = EndErrTicks behind before now error

-- how many octets lie behind the gate that ends a log
abbrev pub behind_in : Reading → ℕ
behind_in (Opened parts behind) = length behind
behind_in read = 0

-- How many windows are read of so many octets: of a log those up to the gate that ends it, and no more than there are; of
-- one with a damaged batch the first at least; and of what is no log the first, where there are octets.
abbrev pub AreRead : Reading → ℕ → ℕ → Type 0
AreRead (Opened parts behind) octets count = (windows_in (octets - length behind) ≤ count) × (count ≤ windows_in octets)
AreRead (Damaged parts) octets count = (1 ≤ count) × (count ≤ windows_in octets)
AreRead read octets count = count ≡ min 1 octets

-- The reading of a whole log: so many calls ahead of the first window, the windows, and so many calls at its end. A refusal
-- comes ahead of those at the end, and so does want of memory.
abbrev pub WholeErrTicks : ℕ → ℕ → Reading → ℕ → ℕ → ℕ → LogErr → Type 0
WholeErrTicks calls ends read octets before now log_err.Memory = (before + calls ≤ now) × (now ≤ before + calls + windows_in octets)
WholeErrTicks calls ends read octets before now (log_err.DiskFault fault.Failed) = (before < now) × (now ≤ before + calls + windows_in octets + ends)
WholeErrTicks calls ends read octets before now (log_err.DiskFault fault.Memory) = (before ≤ now) × (now ≤ before + calls + windows_in octets + ends)
WholeErrTicks calls ends read octets before now error = (count : ℕ) × AreRead read octets count × (now ≡ before + calls + count)

abbrev pub WholeTicks : {T : Type 0} → ℕ → ℕ → Reading → ℕ → ℕ → ℕ → Result T LogErr → Type 0
WholeTicks calls ends read octets before now (Ok value) = (count : ℕ) × AreRead read octets count × (now ≡ before + calls + count + ends)
WholeTicks calls ends read octets before now (Err error) = WholeErrTicks calls ends read octets before now error
