-- What the tables of a book hold.
use Rattle.std.specs.Prelude.{◌≡◌, ℕ, ◌/◌, ◌%◌, Bool, ◌==◌, ◌&&◌, if◌then◌else◌, Option, Some, None, is_some, get_or}
use Rattle.std.specs.Option.{option_flatten}
use Rattle.std.specs.BTreeMap.{get}
use Rattle.std.specs.declared.cmp.Ordering.{Ordering}
use Rattle.ota_core.specs.Keyset.{Keyset, is_same_keyset}
use Rattle.ota_core.specs.Job.{is_same_job}
use Rattle.ota_core.specs.Entry.{Reservation}
use Rattle.ota_core.specs.declared.jobs.JobId.{JobId}
use Rattle.ota_core.specs.contracts.keysets.KeysetIdOrd.TheImpl as keyset_ord
use Rattle.ota_core.specs.contracts.jobs.JobIdOrd.TheImpl as job_ord
use Rattle.keyset_book.specs.contracts.counter_table.RowIdOrd.TheImpl as row_ord
use Rattle.keyset_book.specs.declared.keyset_table.Known.{Known}
use Rattle.keyset_book.specs.declared.keyset_table.KeysetTable.{KeysetTable}
use Rattle.keyset_book.specs.declared.job_table.JobTable.{JobTable}
use Rattle.keyset_book.specs.declared.counter_table.Standing.{Standing}
use Rattle.keyset_book.specs.declared.counter_table.Row.{Row}
use Rattle.keyset_book.specs.declared.counter_table.CounterTable.{CounterTable}

-- the order of keysets
abbrev pub keyset_cmp : Keyset → Keyset → Ordering
keyset_cmp = (keyset_ord.ghosts).cmp

-- the order of jobs
abbrev pub job_cmp : JobId → JobId → Ordering
job_cmp = (job_ord.ghosts).cmp

-- the order of rows
abbrev pub row_cmp : Reservation → Reservation → Ordering
row_cmp = (row_ord.ghosts).cmp

-- the row in which a counter stands, and its place there, from 0
abbrev pub row_of : Reservation → Reservation
row_of counter = record { keyset = counter.keyset; counter = counter.counter / 8 }

abbrev pub column_of : Reservation → ℕ
column_of counter = counter.counter % 8

-- how a counter of a row stands, where the row is made
abbrev pub standing_at : Option Row → ℕ → Option Standing
standing_at None column = None
standing_at (Some row) column = get_or row.standings column None

-- the position of a counter of a row, or 0 where the row isn't made
abbrev pub position_at : Option Row → ℕ → ℕ
position_at None column = 0
position_at (Some row) column = get_or row.positions column 0

-- the same counter of the same keyset
abbrev pub is_same_counter : Reservation → Reservation → Bool
is_same_counter a b = is_same_keyset a.keyset b.keyset && (a.counter == b.counter)

-- what is known of the keyset
abbrev pub known_in : KeysetTable → Keyset → Option Known
known_in table keyset = option_flatten (get keyset_cmp table.places keyset)

-- there is a place for the keyset
abbrev pub has_keyset_place : KeysetTable → Keyset → Bool
has_keyset_place table keyset = is_some (get keyset_cmp table.places keyset)

-- the keyset's place is filled, and each other keyset stays as it was
abbrev pub FillsKeyset : KeysetTable → Keyset → Known → KeysetTable → Type 0
FillsKeyset old keyset known new = (other : Keyset) → known_in new other ≡ (if is_same_keyset keyset other then Some known else known_in old other)

-- the job's last reservation
abbrev pub reserved_in : JobTable → JobId → Option Reservation
reserved_in table job = option_flatten (get job_cmp table.places job)

-- there is a place for the job
abbrev pub has_job_place : JobTable → JobId → Bool
has_job_place table job = is_some (get job_cmp table.places job)

-- the job's place is filled, and each other job stays as it was
abbrev pub FillsJob : JobTable → JobId → Reservation → JobTable → Type 0
FillsJob old job reservation new = (other : JobId) → reserved_in new other ≡ (if is_same_job job other then Some reservation else reserved_in old other)

-- how the counter stands, where it is reserved
abbrev pub standing_in : CounterTable → Reservation → Option Standing
standing_in table counter = standing_at (get row_cmp table.rows (row_of counter)) (column_of counter)

-- the position at which the counter was reserved, or 0
abbrev pub position_in : CounterTable → Reservation → ℕ
position_in table counter = position_at (get row_cmp table.rows (row_of counter)) (column_of counter)

-- there is a place for the counter
abbrev pub has_counter_place : CounterTable → Reservation → Bool
has_counter_place table counter = is_some (get row_cmp table.rows (row_of counter))

-- the row is filled, and each other row stays as it was
abbrev pub FillsRow : CounterTable → Reservation → Row → CounterTable → Type 0
FillsRow old id filled new = (other : Reservation) → get row_cmp new.rows other ≡ (if is_same_counter id other then Some filled else get row_cmp old.rows other)

-- the counter's place is filled, and each other counter stays as it was
abbrev pub FillsCounter : CounterTable → Reservation → Standing → CounterTable → Type 0
FillsCounter old counter standing new = (other : Reservation) → standing_in new other ≡ (if is_same_counter counter other then Some standing else standing_in old other)

-- the counter gets this position, and each other counter keeps its own
abbrev pub FillsPosition : CounterTable → Reservation → ℕ → CounterTable → Type 0
FillsPosition old counter position new = (other : Reservation) → position_in new other ≡ (if is_same_counter counter other then position else position_in old other)

-- each counter keeps its position
abbrev pub SamePositions : CounterTable → CounterTable → Type 0
SamePositions old new = (counter : Reservation) → position_in new counter ≡ position_in old counter
