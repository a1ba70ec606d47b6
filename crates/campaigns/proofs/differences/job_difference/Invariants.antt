use Rattle.std.proofs.Common.{◌≡◌, ◌+◌, drop, map}
use Rattle.campaigns.specs.Differences.{job_difference, job_difference_from}
use Rattle.campaigns.proofs.differences.job_difference.Given as goal

abbrev pub invariant-loop-place : goal.invariant-loop-place
invariant-loop-place l =
    job_difference l.jobs (map (λ history. history.now.entries) l.histories) ≡ job_difference_from (l.place + 1) (drop l.place l.jobs) (map (λ history. history.now.entries) l.histories)
