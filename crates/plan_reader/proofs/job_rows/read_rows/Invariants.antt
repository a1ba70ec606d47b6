use Rattle.std.proofs.Common.{◌≡◌, ◌≤◌, ◌++◌, ◌-◌, [], map, length}
use Rattle.plan_reader.specs.JobRows.{job_said, first_of_rows}
use Rattle.plan_reader.specs.PlanPlaces.{HasNumbers}
use Rattle.plan_reader.specs.RowsLeft.{IsReading, rows_left}
use Rattle.plan_reader.proofs.job_rows.read_rows.Given as goal

abbrev pub invariant-rows : goal.invariant-rows
invariant-rows l =
    let all = rows_left l.fn.reader in
    IsReading l.reader
    × (first_of_rows l.plan [] all ≡ first_of_rows l.plan l.jobs.items (rows_left l.reader))
    × (map (job_said l.plan) all ≡ l.jobs.items ++ map (job_said l.plan) (rows_left l.reader))
    × (l.place ≡ length l.jobs.items)
    × (l.place ≤ 100000)
    × HasNumbers l.numbers l.jobs.items

abbrev pub decreases-rows : goal.decreases-rows
decreases-rows l = 100000 - l.place
