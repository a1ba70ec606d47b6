-- How the work list is made, job by job.
use Rattle.std.specs.Prelude.{◌≡◌, ℕ, ◌+◌, ◌-◌, ◌%◌, ◌<◌, ◌==◌, if◌then◌else◌, unwrap_or, List, [], ◌∷◌, ◌++◌, length, get_or, set}
use Rattle.std.specs.BTreeMap.{BTreeMap, get}
use Rattle.ota_core.specs.Keyset.{Keyset}
use Rattle.ota_core.specs.declared.jobs.Job.{Job}
use Rattle.keyset_book.specs.Tables.{keyset_cmp}
use Rattle.senders.specs.declared.pieces.Work.{Work}
use Rattle.campaigns.specs.WorkList.{jobs_of_lane, pieces_of}
use Rattle.campaigns.specs.declared.batches.LaneEnd.{LaneEnd}

-- how many jobs are counted on a keyset
abbrev pub counted_in : BTreeMap Keyset ℕ → Keyset → ℕ
counted_in table keyset = unwrap_or (get keyset_cmp table keyset) 0

-- where a lane's next job goes that has none yet
abbrev pub no_piece : LaneEnd
no_piece = record { room = 0; piece = 0 }

-- the piece at a place
abbrev pub piece_at : List Work → ℕ → Work
piece_at works place = get_or works place (record { lane = 0; jobs = [] })

-- a piece with one job more
abbrev pub joined : Work → Job → Work
joined work job = record { lane = work.lane; jobs = work.jobs ++ job ∷ [] }

-- the pieces with one job more on a lane whose next job goes there
abbrev pub works_with : ℕ → Job → LaneEnd → List Work → List Work
works_with lane job end works =
    if end.room == 0 then works ++ record { lane = lane; jobs = job ∷ [] } ∷ [] else set works end.piece (joined (piece_at works end.piece) job)

-- where the lane's next job goes behind it, where there were so many pieces
abbrev pub end_behind : ℕ → ℕ → LaneEnd → LaneEnd
end_behind size pieces end =
    if end.room == 0 then record { room = size - 1; piece = pieces } else record { room = end.room - 1; piece = end.piece }

-- the last piece of a lane alone takes more jobs, and takes so many as are said
pub record IsEnd (size lane : ℕ) (works : List Work) (end : LaneEnd) : Type 0 where
  pub below : end.room < size
  pub there : 0 < end.room → end.piece < length works
  pub last : 0 < end.room → ((piece_at works end.piece).lane ≡ lane) × (length (piece_at works end.piece).jobs + end.room ≡ size)
  pub only : (place : ℕ) → place < length works → (piece_at works place).lane ≡ lane → length (piece_at works place).jobs < size
      → (0 < end.room) × (place ≡ end.piece)

-- the jobs stand in pieces, and it is known where the next one of each lane goes
pub record IsPlaced (lanes size : ℕ) (jobs : List Job) (works : List Work) (ends : List LaneEnd) : Type 0 where
  pub are : works ≡ pieces_of lanes size [] jobs
  pub each : length ends ≡ lanes
  pub behind : (lane : ℕ) → lane < lanes → IsEnd size lane works (get_or ends lane no_piece)
  pub counts : (lane : ℕ) → lane < lanes → (length (jobs_of_lane lanes lane jobs) + (get_or ends lane no_piece).room) % size ≡ 0
