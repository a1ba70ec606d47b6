-- The octets of a disk, read one window after another.
use Rattle.std.specs.Prelude.{◌≡◌, ℕ, ◌+◌, ◌/◌, ◌^◌, ◌<◌, ◌≤◌, Bool, true, false, List, ◌++◌, length, take, drop, Result, Ok, Err, IfErr, OnOk}
use Rattle.disk_model.specs.Counts.{Counts}
use Rattle.disk_model.specs.Disk.{Meaning, Tells, image_now, DiskRun}
use Rattle.gate_log.specs.declared.log_errors.LogErr.{LogErr}
use Rattle.gate_log.specs.Answers.{LogCause, UnlessFault, IsWantOrFault}

-- the octets of a disk that were read and not gone over, how many were read, and how many the disk has
pub record WindowsState : Type 0 where
  pub ahead : List ℕ
  pub read : ℕ
  pub long : ℕ

-- what is still to be gone over of this text
abbrev pub rest_of : List ℕ → WindowsState → List ℕ
rest_of text windows = windows.ahead ++ drop windows.read text

-- no more was gone over than read, no more read than there is, and no more is there than memory could hold
pub record IsWithin (windows : WindowsState) : Type 0 where
  pub ahead : length windows.ahead ≤ windows.read
  pub read : windows.read ≤ windows.long
  pub fits : windows.long < 2 ^ 63

-- how many windows of 65,536 octets so many octets take
abbrev pub windows_in : ℕ → ℕ
windows_in octets = (octets + 65535) / 65536

-- How far reading takes the clock: at Ok as many calls were made as windows were read, and else no more than there were
-- windows left.
abbrev pub ReadTicks : {T : Type 0} → ℕ → ℕ → WindowsState → WindowsState → Result T LogErr → Type 0
ReadTicks before now old new (Ok value) = now + windows_in old.read ≡ before + windows_in new.read
ReadTicks before now old new (Err error) = now + windows_in old.read ≤ before + windows_in old.long

module _ {D B C : Type 0} (told : Meaning D B C) (counts : D → Counts) where
  -- calls that only look at a disk, through windows
  pub record Looks {T : Type 0} (old new : D) (was now : WindowsState) (result : Result T LogErr) : Type 0 where
    pub tells : told.tells new ≡ told.tells old
    pub cause : LogCause (counts old) (counts new) result
    pub err : IfErr result IsWantOrFault
    pub content : Tells told old → UnlessFault result (told.seen new ≡ told.seen old)
    pub moments : Tells told old → DiskRun told old new (image_now told old)
    pub long : Tells told old → was.long ≡ length (told.seen old) → OnOk result (now.long ≡ was.long)
    pub clock : Tells told old → was.long ≡ length (told.seen old) → ReadTicks (told.clock old) (told.clock new) was now result
    pub shorter : now.long ≤ was.long

-- the next octets of a text were added to others
pub record IsTaken (text : List ℕ) (count : ℕ) (before after : List ℕ) (was now : WindowsState) : Type 0 where
  pub octets : after ≡ before ++ take count (rest_of text was)
  pub rest : rest_of text now ≡ drop count (rest_of text was)

-- they were, or there were fewer
abbrev pub IsTakenOrShort : List ℕ → ℕ → List ℕ → List ℕ → WindowsState → WindowsState → Bool → Type 0
IsTakenOrShort text count before after was now true = IsTaken text count before after was now
IsTakenOrShort text count before after was now false = length (rest_of text was) < count
