use Rattle.std.proofs.Common.{◌≡◌, ◌+◌, drop}
use Rattle.lane_session.specs.Differences.{histories_of, job_difference, job_difference_from}
use Rattle.lane_session.proofs.differences.job_difference.Given as goal

abbrev pub invariant-loop-place : goal.invariant-loop-place
invariant-loop-place l = job_difference l.jobs (histories_of l.lanes) ≡ job_difference_from (l.place + 1) (drop l.place l.jobs) (histories_of l.lanes)
