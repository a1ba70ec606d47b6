-- What stands where a call of a disk found no memory.
use Rattle.std.specs.Prelude.{Result, Ok, Err}
use Rattle.disk_model.specs.declared.faults.DiskFault.{DiskFault}
use Rattle.disk_model.specs.declared.faults.DiskFault.TheVariants.{Failed, Memory}

-- what was before, or what is then
abbrev pub unless_want : {T X : Type 0} → Result T DiskFault → X → X → X
unless_want (Ok value) before then_is = then_is
unless_want (Err Failed) before then_is = then_is
unless_want (Err Memory) before then_is = before
