-- How a journal is kept.
use Rattle.std.specs.Prelude.{◌≡◌, ℕ, ◌*◌, ◌<◌, ◌≤◌, []}
use Rattle.keyset_book.specs.Book.{StandsFor}
use Rattle.keyset_book.specs.declared.books.Book.{Book}
use Rattle.ota_core.specs.HistoryValue.{HistoryValue}
use Rattle.gate_log.specs.Batches.{BatchState}
use Rattle.counter_journal.specs.EntryRanges.{IsHistory, LONGEST_ENTRY}

-- the entries are a history of the lane, and the book stands for them, and between the calls the batch is empty and has
-- room for so many of the longest entries
pub record IsJournalKept (lane lanes : ℕ) (history : HistoryValue) (book : Book) (batch : BatchState) (batch_room entries_room : ℕ) : Type 0 where
  pub some_lanes : 0 < lanes
  pub of_lane : IsHistory lane lanes history.entries
  pub stands : StandsFor book history.entries
  pub empty : batch.parts ≡ []
  pub parts_room : batch.parts_room ≡ batch_room
  pub octets_room : LONGEST_ENTRY * batch_room ≤ batch.octets_room
  pub fits_history : entries_room ≤ history.room
  pub fits_batch : entries_room ≤ batch_room
