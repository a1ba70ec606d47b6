use Rattle.std.specs.BTreeMap.{get}
use Rattle.keyset_book.specs.Tables.{job_cmp}
use Rattle.reports.proofs.PlaceLemmas.{reserve_more}
use Rattle.reports.proofs.lane_indexes.reserves_in.Goals as goal

pub loop-place-preserved : goal.loop-place-preserved
loop-place-preserved c = λ job.
    reserve_more c.args.entries.now c.loop-place.place c.index-entries-place.result c.loop-place-test.true c.index-entries-place.is job
    (get job_cmp c.loop-place.places job) (get job_cmp c.put_reserve.new.places job) (c.loop-place.invariant job) (c.in_ok-put_reserve.ensures job)
