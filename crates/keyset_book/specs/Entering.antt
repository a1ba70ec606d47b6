-- What an entry changes in the tables of a book.
use Rattle.std.specs.Prelude.{◌≡◌, true, false, Some}
use Rattle.ota_core.specs.Keyset.{Keyset}
use Rattle.ota_core.specs.Entry.{Reservation}
use Rattle.ota_core.specs.declared.jobs.JobId.{JobId}
use Rattle.ota_core.specs.declared.keysets.KeysetFacts.{KeysetFacts}
use Rattle.ota_core.specs.declared.entries.Entry.{Entry}
use Rattle.ota_core.specs.declared.entries.Entry.TheVariants as entry
use Rattle.keyset_book.specs.Tables.{known_in, has_keyset_place, FillsKeyset, reserved_in, has_job_place, FillsJob, standing_in, has_counter_place, FillsCounter, FillsPosition, SamePositions}
use Rattle.keyset_book.specs.declared.keyset_table.Known.{Known}
use Rattle.keyset_book.specs.declared.counter_table.Standing.{Standing}
use Rattle.keyset_book.specs.declared.counter_table.Standing.TheVariants as standing
use Rattle.keyset_book.specs.declared.books.Book.{Book}

-- the keyset is opened with these facts
pub record Opens (old : Book) (keyset : Keyset) (facts : KeysetFacts) (new : Book) : Type 0 where
  pub keysets : has_keyset_place old.keysets keyset ≡ true
      → FillsKeyset old.keysets keyset (record { facts = facts; last = facts.base; closed = false }) new.keysets
  pub jobs : new.jobs ≡ old.jobs
  pub counters : new.counters ≡ old.counters

-- the counter is reserved for the job
pub record Reserves (old : Book) (counter : Reservation) (job : JobId) (new : Book) : Type 0 where
  pub keysets : (known : Known) → known_in old.keysets counter.keyset ≡ Some known
      → FillsKeyset old.keysets counter.keyset (record { facts = known.facts; last = counter.counter; closed = known.closed }) new.keysets
  pub jobs : has_job_place old.jobs job ≡ true → FillsJob old.jobs job counter new.jobs
  pub counters : has_counter_place old.counters counter ≡ true → FillsCounter old.counters counter standing.Unsettled new.counters
  pub positions : has_counter_place old.counters counter ≡ true → FillsPosition old.counters counter old.entries new.counters

-- the counter is settled so
pub record Settles (old : Book) (counter : Reservation) (how : Standing) (new : Book) : Type 0 where
  pub keysets : new.keysets ≡ old.keysets
  pub jobs : new.jobs ≡ old.jobs
  pub counters : has_counter_place old.counters counter ≡ true → FillsCounter old.counters counter how new.counters
  pub positions : SamePositions old.counters new.counters

-- the keyset is closed
pub record Closes (old : Book) (keyset : Keyset) (new : Book) : Type 0 where
  pub keysets : (known : Known) → known_in old.keysets keyset ≡ Some known
      → FillsKeyset old.keysets keyset (record { facts = known.facts; last = known.last; closed = true }) new.keysets
  pub jobs : new.jobs ≡ old.jobs
  pub counters : new.counters ≡ old.counters

-- what the entry changes, but for the last moment
abbrev pub Enters : Book → Entry → Book → Type 0
Enters old (entry.Open by moment keyset facts) new = Opens old keyset facts new
Enters old (entry.Reserve by moment keyset counter job tar name body) new = Reserves old (record { keyset = keyset; counter = counter }) job new
Enters old (entry.Done by moment keyset counter answer) new = Settles old (record { keyset = keyset; counter = counter }) standing.Done new
Enters old (entry.Refused by moment keyset counter status) new = Settles old (record { keyset = keyset; counter = counter }) (standing.Refused status) new
Enters old (entry.Close by moment keyset) new = Closes old keyset new

-- each place that the one book has the other has
pub record KeepsPlaces (old new : Book) : Type 0 where
  pub keysets : (keyset : Keyset) → has_keyset_place old.keysets keyset ≡ true → has_keyset_place new.keysets keyset ≡ true
  pub jobs : (job : JobId) → has_job_place old.jobs job ≡ true → has_job_place new.jobs job ≡ true
  pub counters : (counter : Reservation) → has_counter_place old.counters counter ≡ true → has_counter_place new.counters counter ≡ true

-- the one book says what the other says
pub record SaysSame (old new : Book) : Type 0 where
  pub keysets : (keyset : Keyset) → known_in new.keysets keyset ≡ known_in old.keysets keyset
  pub jobs : (job : JobId) → reserved_in new.jobs job ≡ reserved_in old.jobs job
  pub counters : (counter : Reservation) → standing_in new.counters counter ≡ standing_in old.counters counter
  pub positions : SamePositions old.counters new.counters
  pub moment : new.moment ≡ old.moment
  pub count : new.entries ≡ old.entries
