-- The journal of a world: the entries that are durable, and behind them those of the batch being written.
use Rattle.std.specs.Prelude.{◌≡◌, ℕ, ◌≤◌, Bool, true, false, Option, Some, None, unwrap_or, List, [], ◌++◌, length}
use Rattle.ota_core.specs.declared.entries.Entry.{Entry}

pub record JournalState : Type 0 where
  pub history : List Entry
  pub batch : Option (List Entry)

abbrev pub batch_of : Bool → List Entry → Option (List Entry)
batch_of true entries = Some entries
batch_of false entries = None

-- the durable entries, and behind them the batch
abbrev pub written_to : JournalState → List Entry
written_to journal = journal.history ++ unwrap_or journal.batch []

-- the durable ones are the first of the entries, and all where no batch is being written
pub record IsJournal (entries : List Entry) (durable : ℕ) (is_writing : Bool) : Type 0 where
  pub within : durable ≤ length entries
  pub whole : is_writing ≡ false → durable ≡ length entries
