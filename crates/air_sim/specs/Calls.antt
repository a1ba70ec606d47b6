-- The moments of a site behind a call of its disk.
use Rattle.std.specs.Prelude.{List, [], ◌∷◌, ◌++◌, Result, Ok, Err}
use Rattle.disk_model.specs.declared.faults.DiskFault.{DiskFault}
use Rattle.disk_model.specs.declared.faults.DiskFault.TheVariants.{Failed, Memory}
use Rattle.air_sim.specs.declared.notes.Note.{Note}
use Rattle.air_sim.specs.declared.notes.Note.TheVariants.{Quiet}
use Rattle.air_sim.specs.declared.parts.Parts.{Parts}
use Rattle.air_sim.specs.Wants.{unless_want}

-- one more has passed, unless the call found no memory
abbrev pub past_after : {D B C T : Type 0} → Result T DiskFault → List (Parts D B C × Note) → Parts D B C → List (Parts D B C × Note)
past_after result past parts = unless_want result past (past ++ (parts, Quiet) ∷ [])
