-- The calls of a disk, what each did, and how many more there is room for.
use Rattle.std.specs.Prelude.{ℕ, List}
use Rattle.disk_model.specs.Effects.{Effect}
use Rattle.disk_model.specs.declared.call_kinds.Call.{Call}

pub record Logged : Type 0 where
  pub calls : List Call
  pub effects : List Effect
  pub room : ℕ
