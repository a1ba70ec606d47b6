-- What an opening and an append make of a disk.
use Rattle.std.specs.Prelude.{◌≡◌, ℕ, ◌+◌, ◌<◌, ◌≤◌, List, [], length, take, Result, Ok, Err}
use Rattle.std.specs.List.{sum_by}
use Rattle.disk_model.specs.declared.faults.DiskFault.TheVariants as fault
use Rattle.disk_model.specs.Disk.{Meaning, image_now, Only}
use Rattle.gate_log.specs.declared.log_errors.LogErr.{LogErr}
use Rattle.gate_log.specs.declared.log_errors.LogErr.TheVariants.{DiskFault, Full}
use Rattle.gate_log.specs.Reading.{parts_of, OpensTo}
use Rattle.gate_log.specs.Reading.Reading.{Opened}

-- an image that opens to the parts to which these octets open
abbrev pub OpensAlike : List ℕ → List ℕ → List ℕ → Type 0
OpensAlike head octets image = (parts : List (List ℕ)) × OpensTo head parts octets × OpensTo head parts image

-- a log that was opened: what lay behind its gate is cut off
pub record IsOpened (head old new : List ℕ) (len : ℕ) : Type 0 where
  pub parts : List (List ℕ)
  pub behind : List ℕ
  pub was : parts_of head old ≡ Opened parts behind
  pub is : parts_of head new ≡ Opened parts []
  pub cut : new ≡ take len old
  pub long : len + length behind ≡ length old

-- a log of this length with nothing behind it, and a stop leaves just what a read gives
pub record IsOpenLog {D B C : Type 0} (told : Meaning D B C) (disk : D) (len : ℕ) : Type 0 where
  pub only : Only (told.seen disk) (image_now told disk)
  pub long : length (told.seen disk) ≡ len
  pub opens : (head : List ℕ) × (parts : List (List ℕ)) × (parts_of head (told.seen disk) ≡ Opened parts [])

-- the greatest length of a log, in octets
abbrev pub LIMIT : ℕ
LIMIT = 16777216

-- the octets that a batch of these parts needs: its own length, that of each part, the parts, and a gate
abbrev pub need_of : List (List ℕ) → ℕ
need_of parts = 5 + sum_by (λ part. 4 + length part) parts

-- a batch is refused exactly where it has no room
abbrev pub AppendAnswer : ℕ → ℕ → Result (Unit {0}) LogErr → Type 0
AppendAnswer length need (Ok done) = length + need ≤ LIMIT
AppendAnswer length need (Err (DiskFault fault)) = length + need ≤ LIMIT
AppendAnswer length need (Err (Full at needed)) = (LIMIT < length + need) × (at ≡ length) × (needed ≡ need)
AppendAnswer length need (Err other) = ⊥

-- How far an append takes the clock: at Ok four device calls were made, and none where there is no room.
abbrev pub AppendTicks : ℕ → ℕ → Result (Unit {0}) LogErr → Type 0
AppendTicks before now (Ok done) = now ≡ before + 4
AppendTicks before now (Err (DiskFault fault.Failed)) = (before < now) × (now ≤ before + 4)
AppendTicks before now (Err (DiskFault fault.Memory)) = (before ≤ now) × (now < before + 4)
AppendTicks before now (Err other) = now ≡ before
