-- What an entry of a history says of a keyset, a counter or a job.
use Rattle.std.specs.Prelude.{ℕ, Bool, false, ◌==◌, ◌&&◌, if◌then◌else◌, Option, Some, None}
use Rattle.ota_core.specs.Keyset.{Keyset, is_same_keyset}
use Rattle.ota_core.specs.Job.{is_same_job}
use Rattle.ota_core.specs.declared.jobs.JobId.{JobId}
use Rattle.ota_core.specs.declared.keysets.KeysetFacts.{KeysetFacts}
use Rattle.ota_core.specs.declared.entries.Entry.{Entry}
use Rattle.ota_core.specs.declared.entries.Entry.TheVariants.{Open, Reserve, Done, Refused, Close}

-- a counter of a keyset, as an entry reserves it
pub record Reservation : Type 0 where
  pub keyset : Keyset
  pub counter : ℕ

-- the keyset that the entry is of
abbrev pub keyset_of : Entry → Keyset
keyset_of (Open by moment keyset facts) = keyset
keyset_of (Reserve by moment keyset counter job tar name body) = keyset
keyset_of (Done by moment keyset counter answer) = keyset
keyset_of (Refused by moment keyset counter status) = keyset
keyset_of (Close by moment keyset) = keyset

-- the number of the sender that made the entry
abbrev pub by_of : Entry → ℕ
by_of (Open by moment keyset facts) = by
by_of (Reserve by moment keyset counter job tar name body) = by
by_of (Done by moment keyset counter answer) = by
by_of (Refused by moment keyset counter status) = by
by_of (Close by moment keyset) = by

-- the moment at which the entry was made, as the clock gave it
abbrev pub moment_of : Entry → ℕ
moment_of (Open by moment keyset facts) = moment
moment_of (Reserve by moment keyset counter job tar name body) = moment
moment_of (Done by moment keyset counter answer) = moment
moment_of (Refused by moment keyset counter status) = moment
moment_of (Close by moment keyset) = moment

-- the facts with which the entry opens the keyset
abbrev pub facts_in : Keyset → Entry → Option KeysetFacts
facts_in keyset (Open by moment opened facts) = if is_same_keyset opened keyset then Some facts else None
facts_in keyset _ = None

-- the entry opens the keyset
abbrev pub is_open_of : Keyset → Entry → Bool
is_open_of keyset (Open by moment opened facts) = is_same_keyset opened keyset
is_open_of keyset _ = false

-- the entry closes the keyset
abbrev pub is_close_of : Keyset → Entry → Bool
is_close_of keyset (Close by moment closed) = is_same_keyset closed keyset
is_close_of keyset _ = false

-- the counter of the keyset that the entry uses up: the base of its Open, or the reserved one
abbrev pub counter_in : Keyset → Entry → Option ℕ
counter_in keyset (Open by moment opened facts) = if is_same_keyset opened keyset then Some facts.base else None
counter_in keyset (Reserve by moment reserved counter job tar name body) = if is_same_keyset reserved keyset then Some counter else None
counter_in keyset _ = None

-- the counter that the entry reserves
abbrev pub reserved_by : Entry → Option Reservation
reserved_by (Reserve by moment keyset counter job tar name body) = Some (record { keyset = keyset; counter = counter })
reserved_by _ = None

-- the reservation that the entry makes for the job
abbrev pub reservation_in : JobId → Entry → Option Reservation
reservation_in job (Reserve by moment keyset counter reserved tar name body) =
    if is_same_job reserved job then Some (record { keyset = keyset; counter = counter }) else None
reservation_in job _ = None

-- the entry reserves this counter of the keyset
abbrev pub is_reserve_of : Reservation → Entry → Bool
is_reserve_of place (Reserve by moment keyset counter job tar name body) = is_same_keyset keyset place.keyset && (counter == place.counter)
is_reserve_of place _ = false

-- the entry settles this counter of the keyset as refused
abbrev pub is_refusal_of : Reservation → Entry → Bool
is_refusal_of place (Refused by moment keyset counter status) = is_same_keyset keyset place.keyset && (counter == place.counter)
is_refusal_of place _ = false

-- the entry settles this counter of the keyset
abbrev pub is_settlement_of : Reservation → Entry → Bool
is_settlement_of place (Done by moment keyset counter answer) = is_same_keyset keyset place.keyset && (counter == place.counter)
is_settlement_of place (Refused by moment keyset counter status) = is_same_keyset keyset place.keyset && (counter == place.counter)
is_settlement_of place _ = false
