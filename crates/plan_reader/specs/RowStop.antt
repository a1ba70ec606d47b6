-- Why a row gives no job.
use Rattle.std.specs.Prelude.{◌≡◌, Option, Some}
use Rattle.plan_reader.specs.declared.columns.Column.{Column}
use Rattle.plan_reader.specs.declared.job_rows.Stop.{Stop}
use Rattle.plan_reader.specs.declared.job_rows.Stop.TheVariants.{Wrong, Memory}

-- when a row gives none: exactly with the first wrong column, for want of memory with or without one
abbrev pub StopComes : Option Column → Stop → Type 0
StopComes first (Wrong column) = first ≡ Some column
StopComes first Memory = Unit {0}
