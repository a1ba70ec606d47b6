-- What senders may be given to do.
use Rattle.std.specs.Prelude.{◌≡◌, ℕ, ◌+◌, ◌<◌, ◌≤◌, ◌==◌, if◌then◌else◌, false, All, List, [], ◌∷◌, ◌++◌, length, reverse, Some, None}
use Rattle.disk_model.specs.Counts.{Counts}
use Rattle.disk_model.specs.Disk.{Meaning}
use Rattle.ota_core.specs.History.{last_reservation, LAST_COUNTER}
use Rattle.ota_core.specs.Job.{is_same_job}
use Rattle.ota_core.specs.Questions.{state_of}
use Rattle.ota_core.specs.declared.entries.Entry.{Entry}
use Rattle.ota_core.specs.declared.jobs.Job.{Job}
use Rattle.ota_core.specs.declared.jobs.JobId.{JobId}
use Rattle.ota_core.specs.declared.questions.KeysetState.TheVariants as state
use Rattle.site_model.specs.Port.{PortState}
use Rattle.world_core.specs.declared.lines.Line.{Line}
use Rattle.lane_lock.specs.Numbers.{Each, IsIn}
use Rattle.lane_engine.specs.Keeping.{IsAtHome}
use Rattle.lane_engine.specs.LaneValue.{LaneValue}
use Rattle.lane_engine.specs.Reserving.{IsJobOf, JobsDiffer, next_behind, taken_refusal}
use Rattle.lane_engine.specs.declared.answers.LaneErr.{LaneErr}
use Rattle.senders.specs.declared.pieces.Work.{Work}

-- the jobs of the pieces of a lane, in order
abbrev pub jobs_at : ℕ → List Work → List Job
jobs_at place [] = []
jobs_at place (work ∷ works) = (if work.lane == place then work.jobs else []) ++ jobs_at place works

-- the jobs of all pieces, in order
abbrev pub all_jobs : List Work → List Job
all_jobs [] = []
all_jobs (work ∷ works) = work.jobs ++ all_jobs works

-- a piece names a lane that is there, and has 1 to `batch` different jobs of it, with scripts of 1 to 4,096 octets
pub record IsPiece (batch lanes : ℕ) (work : Work) : Type 0 where
  pub there : work.lane < lanes
  pub some : 1 ≤ length work.jobs
  pub few : length work.jobs ≤ batch
  pub differ : JobsDiffer work.jobs
  pub of_lane : All (IsJobOf work.lane lanes) work.jobs

-- Behind this past each job is new or refused, its keyset is open, and each keyset has a free counter for each of its jobs.
pub record MayReserve (past : List Entry) (jobs : List Job) : Type 0 where
  pub in_use : (job : Job) → IsIn job jobs → state_of job.keyset past ≡ state.Open
  pub free : (job : Job) → IsIn job jobs → taken_refusal past (last_reservation job.id past) ≡ None
  pub counters : (job : Job) → IsIn job jobs → next_behind past jobs job.keyset ≤ LAST_COUNTER + 1

-- each watched job stands beside the number of a lane that is there, and no job stands twice
abbrev pub IsWatch : ℕ → List (ℕ × JobId) → Type 0
IsWatch lanes [] = Unit {0}
IsWatch lanes (watched ∷ watch) = (watched.0 < lanes) × Each (λ other. is_same_job other.1 watched.1 ≡ false) watch × IsWatch lanes watch

-- P holds of each element and its place, from this one on
abbrev pub EachAt : {A : Type 0} → (ℕ → A → Type 0) → ℕ → List A → Type 0
EachAt P place [] = Unit {0}
EachAt P place (x ∷ xs) = P place x × EachAt P (place + 1) xs

-- P holds of each two elements at one place of two lists, which are of one length
abbrev pub EachBeside : {A B : Type 0} → (ℕ → A → B → Type 0) → ℕ → List A → List B → Type 0
EachBeside P place [] [] = Unit {0}
EachBeside P place (x ∷ xs) (y ∷ ys) = P place x y × EachBeside P (place + 1) xs ys
EachBeside P place _ _ = ⊥

module _ {D B C : Type 0} (told : Meaning D B C) (counts : D → Counts) (port : B → PortState) (lines : C → ℕ → List Line) where
  -- The lane at a place may be worked on: it is the lane of that number among so many, it is at home, its pieces may be
  -- reserved, where it has an end it has none, and where it has no end nothing is lost.
  pub record MayBeWorked (batch lanes : ℕ) (works : List Work) (place : ℕ) (lane : LaneValue D) : Type 0 where
    pub lane_is : lane.journal.lane ≡ place
    pub lanes_are : lane.journal.lanes ≡ lanes
    pub at_home : IsAtHome told counts port lines batch lane
    pub ended : (end : LaneErr) → lane.end ≡ Some end → jobs_at place works ≡ []
    pub whole : lane.end ≡ None → lane.lost ≡ []
    pub may : MayReserve (reverse lane.journal.entries) (jobs_at place works)
