use Rattle.std.proofs.Common.{◌≡◌, take, reverse}
use Rattle.std.specs.Option.{option_and_then}
use Rattle.std.specs.BTreeMap.{get}
use Rattle.ota_core.specs.Questions.{reserved_in, last_reserved}
use Rattle.ota_core.specs.declared.jobs.JobId.{JobId}
use Rattle.keyset_book.specs.Tables.{job_cmp}
use Rattle.reports.specs.Places.{entry_at}
use Rattle.reports.proofs.lane_indexes.reserves_in.Given as goal

abbrev pub invariant-loop-place : goal.invariant-loop-place
invariant-loop-place l =
    (job : JobId) → option_and_then reserved_in (entry_at l.entries (get job_cmp l.places job)) ≡ last_reserved job (reverse (take l.place l.entries))
