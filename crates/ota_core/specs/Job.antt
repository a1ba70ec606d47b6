use Rattle.std.specs.Prelude.{Bool, ◌==◌, ◌&&◌}
use Rattle.ota_core.specs.declared.jobs.JobId.{JobId}

-- the same job of the same campaign
abbrev pub is_same_job : JobId → JobId → Bool
is_same_job a b = (a.campaign == b.campaign) && (a.job == b.job)
