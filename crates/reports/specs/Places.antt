-- Where in a history each job is reserved last, and where each counter is settled. A place is counted from 0.
use Rattle.std.specs.Prelude.{◌≡◌, ℕ, Option, List, reverse, find, slice_get}
use Rattle.std.specs.Option.{option_and_then}
use Rattle.std.specs.BTreeMap.{BTreeMap, get}
use Rattle.std.specs.declared.cmp.Ordering.{Ordering}
use Rattle.ota_core.specs.Entry.{Reservation, is_settlement_of}
use Rattle.ota_core.specs.Questions.{reserved_in, last_reserved}
use Rattle.ota_core.specs.declared.jobs.JobId.{JobId}
use Rattle.ota_core.specs.declared.entries.Entry.{Entry}
use Rattle.keyset_book.specs.Tables.{job_cmp}
use Rattle.reports.specs.contracts.places.CounterKeyOrd.TheImpl as counter_ord

-- the order of counters
abbrev pub counter_cmp : Reservation → Reservation → Ordering
counter_cmp = (counter_ord.ghosts).cmp

-- the entry at a place, where there is one
abbrev pub entry_at : List Entry → Option ℕ → Option Entry
entry_at history place = option_and_then (slice_get history) place

-- at the place of a job stands its last Reserve; a job without a Reserve has no place
abbrev pub FindsReserves : List Entry → BTreeMap JobId ℕ → Type 0
FindsReserves history places =
    (job : JobId) → option_and_then reserved_in (entry_at history (get job_cmp places job)) ≡ last_reserved job (reverse history)

-- at the place of a counter stands its settlement; a counter without a settlement has no place
abbrev pub FindsSettlements : List Entry → BTreeMap Reservation ℕ → Type 0
FindsSettlements history places =
    (counter : Reservation) → entry_at history (get counter_cmp places counter) ≡ find (is_settlement_of counter) (reverse history)
