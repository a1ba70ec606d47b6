use Rattle.std.proofs.Common.{◌≡◌, take, reverse}
use Rattle.ota_core.specs.Keyset.{Keyset}
use Rattle.reports.specs.Cards.{counts_among, reserved_counters}
use Rattle.reports.specs.Counting.{counts_in}
use Rattle.reports.proofs.keyset_counts.count_all.Given as goal

abbrev pub invariant-loop-place : goal.invariant-loop-place
invariant-loop-place l =
    (keyset : Keyset) → counts_in l.table keyset ≡ counts_among (reverse l.lane) (reserved_counters keyset (take l.place l.entries))
