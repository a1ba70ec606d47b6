-- What contracts see of a history.
use Rattle.std.specs.Prelude.{ℕ, List}
use Rattle.ota_core.specs.declared.entries.Entry.{Entry}

-- its entries, oldest first, and for how many more it has room
pub record HistoryValue : Type 0 where
  pub entries : List Entry
  pub room : ℕ
