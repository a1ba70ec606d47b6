-- How a lane was opened.
use Rattle.std.specs.Prelude.{ℕ, List}
use Rattle.disk_model.specs.Counts.{Counts}
use Rattle.ota_core.specs.declared.entries.Entry.{Entry}

-- its number among so many, the history then, the clock of its site before and behind it, and the site's counts before
pub record Opening : Type 0 where
  pub lane : ℕ
  pub lanes : ℕ
  pub entries : List Entry
  pub clock : ℕ
  pub ready : ℕ
  pub counts : Counts
