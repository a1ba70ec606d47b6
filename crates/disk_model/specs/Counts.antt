-- What a disk counts: how often it failed, how often it found no memory, and what is counted beside it.
use Rattle.std.specs.Prelude.{◌≡◌, ◌+◌, ◌-◌, ◌^◌, ◌≤◌, ℕ, min, Result, OnOk, IsErrOf}
use Rattle.disk_model.specs.declared.faults.DiskFault.{DiskFault}
use Rattle.disk_model.specs.declared.faults.DiskFault.TheVariants.{Failed, Memory}

pub record Counts : Type 0 where
  pub faults : ℕ
  pub wants : ℕ
  -- what is counted beside the disk, as the polls of a site that found no message; a disk alone has 0
  pub beside : ℕ

-- a count of 64 bits is one higher at least, or stands at its greatest value
pub record HasRisen (before now : ℕ) : Type 0 where
  pub never_falls : before ≤ now
  pub rises : min (before + 1) (2 ^ 64 - 1) ≤ now

-- After calls of a disk: no count falls, each fault has raised its count, Ok raises none, and what is counted beside the
-- disk stands as it was.
pub record HasCause {T : Type 0} (before now : Counts) (result : Result T DiskFault) : Type 0 where
  pub faults : before.faults ≤ now.faults
  pub wants : before.wants ≤ now.wants
  pub failed : IsErrOf result Failed → HasRisen before.faults now.faults
  pub memory : IsErrOf result Memory → HasRisen before.wants now.wants
  pub ok : OnOk result (now ≡ before)
  pub beside : now.beside ≡ before.beside
