-- What an append makes of a log.
use Rattle.std.specs.Prelude.{◌≡◌, ◌≢◌, ◌⊎◌, ℕ, ◌+◌, ◌-◌, ◌<◌, ◌≤◌, List, ◌∷◌, ◌++◌, length, take, slice_index, Result, Ok, Err}
use Rattle.disk_model.specs.declared.faults.DiskFault.{DiskFault}
use Rattle.disk_model.specs.declared.faults.DiskFault.TheVariants.{Failed, Memory}
use Rattle.disk_model.specs.Disk.{Meaning, image_now, Only}
use Rattle.gate_log.specs.Log.{OPEN, IsClosedBehind}

-- the octets end in a closed gate
pub record EndsClosed (octets : List ℕ) : Type 0 where
  pub filled : 0 < length octets
  pub closed : slice_index octets (length octets - 1) ≢ OPEN

-- all but the gate that ends the octets
abbrev pub front_of : List ℕ → List ℕ
front_of octets = take (length octets - 1) octets

-- a log with a batch and its gate more: the gate in front of them is open
abbrev pub opened_with : List ℕ → List ℕ → List ℕ
opened_with log framed = front_of log ++ OPEN ∷ framed

-- the log without the batch, whatever lies behind its gate, or the log with the whole batch
abbrev pub IsBeforeOrAfter : List ℕ → List ℕ → List ℕ → Type 0
IsBeforeOrAfter log framed image = IsClosedBehind (front_of log) image ⊎ (image ≡ opened_with log framed)

-- a log of this length ends in a closed gate with nothing behind it, and a stop leaves just what a read gives
pub record IsSettled {D B C : Type 0} (told : Meaning D B C) (disk : D) (len : ℕ) : Type 0 where
  pub only : Only (told.seen disk) (image_now told disk)
  pub long : length (told.seen disk) ≡ len
  pub ends : EndsClosed (told.seen disk)

-- How far so many device calls take the clock: at Ok all were made. A call that failed is one of them, and one that
-- found no memory isn't.
abbrev pub CallTicks : {T : Type 0} → ℕ → ℕ → ℕ → Result T DiskFault → Type 0
CallTicks calls before now (Ok value) = now ≡ before + calls
CallTicks calls before now (Err Failed) = (before < now) × (now ≤ before + calls)
CallTicks calls before now (Err Memory) = (before ≤ now) × (now < before + calls)
