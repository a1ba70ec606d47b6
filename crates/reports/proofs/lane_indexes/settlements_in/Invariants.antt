use Rattle.std.proofs.Common.{◌≡◌, take, reverse, find}
use Rattle.std.specs.BTreeMap.{get}
use Rattle.ota_core.specs.Entry.{Reservation, is_settlement_of}
use Rattle.reports.specs.Places.{counter_cmp, entry_at}
use Rattle.reports.proofs.lane_indexes.settlements_in.Given as goal

abbrev pub invariant-loop-place : goal.invariant-loop-place
invariant-loop-place l =
    (counter : Reservation) → entry_at l.entries (get counter_cmp l.places counter) ≡ find (is_settlement_of counter) (reverse (take l.place l.entries))
