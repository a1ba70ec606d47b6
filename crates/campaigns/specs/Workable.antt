-- What holds of each work list, so that senders may be given it.
use Rattle.std.specs.Prelude.{◌≡◌, ℕ, ◌≤◌, All, List, [], length, reverse, slice_index_or}
use Rattle.ota_core.specs.declared.jobs.Job.{Job}
use Rattle.ota_core.specs.declared.entries.Entry.{Entry}
use Rattle.lane_engine.specs.Reserving.{JobsDiffer}
use Rattle.senders.specs.Pieces.{jobs_at, all_jobs, IsPiece, MayReserve}
use Rattle.senders.specs.declared.pieces.Work.{Work}
use Rattle.campaigns.specs.WorkList.{jobs_of_lane}

-- a script of 1 to 4,096 octets
pub record HasScript (job : Job) : Type 0 where
  pub some : 1 ≤ length job.body
  pub short : length job.body ≤ 4096

-- Each piece is of its lane and has at most `batch` jobs, and no job stands twice. The pieces of a lane have the jobs that
-- remain on it, in order, and behind the lane's history a counter may be reserved for each of them.
pub record IsWorkable (batch : ℕ) (histories : List (List Entry)) (remaining : List Job) (works : List Work) : Type 0 where
  pub pieces : All (IsPiece batch (length histories)) works
  pub differ : JobsDiffer (all_jobs works)
  pub lanes : (lane : ℕ) → jobs_at lane works ≡ jobs_of_lane (length histories) lane remaining
  pub may : (lane : ℕ) → MayReserve (reverse (slice_index_or histories lane [])) (jobs_at lane works)
