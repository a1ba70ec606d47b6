use Rattle.std.proofs.Common.{◌≡◌, take}
use Rattle.reports.specs.Summary.{is_done, is_refused, is_unsettled, jobs_that}
use Rattle.reports.proofs.summary.count_jobs.Given as goal

abbrev pub invariant-loop-job : goal.invariant-loop-job
invariant-loop-job l = record {
  done : l.done ≡ jobs_that is_done l.lanes (take l.job-index l.jobs);
  refused : l.refused ≡ jobs_that is_refused l.lanes (take l.job-index l.jobs);
  unsettled : l.unsettled ≡ jobs_that is_unsettled l.lanes (take l.job-index l.jobs);
}
