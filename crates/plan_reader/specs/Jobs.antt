-- The jobs of a list by their numbers.
use Rattle.std.specs.Prelude.{Bool, true, not, ◌&&◌, List, [], ◌∷◌}
use Rattle.std.specs.List.{list_any}
use Rattle.ota_core.specs.Job.{is_same_job}
use Rattle.ota_core.specs.declared.jobs.JobId.{JobId}
use Rattle.ota_core.specs.declared.jobs.Job.{Job}

-- a job of the list has this number
abbrev pub has_job : JobId → List Job → Bool
has_job id jobs = list_any (λ job. is_same_job job.id id) jobs

-- no two jobs of the list have one number
abbrev pub are_distinct : List Job → Bool
are_distinct [] = true
are_distinct (job ∷ jobs) = not (has_job job.id jobs) && are_distinct jobs
