-- What a session's work leaves of a lane.
use Rattle.std.specs.Prelude.{◌≡◌, ◌⊎◌, ℕ, ◌≤◌, Bool, false, List, [], ◌++◌, length, filter, Some, None}
use Rattle.disk_model.specs.Counts.{Counts}
use Rattle.disk_model.specs.Disk.{Meaning}
use Rattle.ota_core.specs.Entry.{by_of}
use Rattle.ota_core.specs.Job.{is_same_job}
use Rattle.ota_core.specs.declared.entries.Entry.{Entry}
use Rattle.ota_core.specs.declared.entries.Entry.TheVariants.{Reserve}
use Rattle.ota_core.specs.declared.jobs.Job.{Job}
use Rattle.ota_core.specs.declared.jobs.JobId.{JobId}
use Rattle.site_model.specs.Port.{PortState}
use Rattle.world_core.specs.declared.lines.Line.{Line}
use Rattle.lane_lock.specs.Numbers.{Each, IsIn}
use Rattle.lane_engine.specs.Ends.{IsFounded}
use Rattle.lane_engine.specs.Keeping.{IsAtHome, IsLaterLane}
use Rattle.lane_engine.specs.LaneValue.{LaneValue}
use Rattle.lane_engine.specs.Polling.{LONGEST_SETTLEMENT}
use Rattle.lane_engine.specs.declared.answers.LaneErr.{LaneErr}
use Rattle.lane_engine.specs.declared.answers.LaneErr.TheVariants as lane_err
use Rattle.senders.specs.Alone.{IsWorkedAlone}
use Rattle.senders.specs.Pieces.{jobs_at}
use Rattle.senders.specs.Served.{with_lost, IsMadeFor, IsNeedOf}
use Rattle.senders.specs.declared.pieces.Work.{Work}
use Rattle.senders.specs.declared.settings.Settings.{Settings}

-- the entry reserves the job of this number
abbrev pub reserves_job : JobId → Entry → Bool
reserves_job id (Reserve by moment keyset counter job tar name body) = is_same_job job id
reserves_job id _ = false

-- how often the job is reserved in the entries
abbrev pub times_reserved : JobId → List Entry → ℕ
times_reserved id entries = length (filter (reserves_job id) entries)

-- The need of want of room that was set in this call: of the longest settlement, or of the reservations of a piece of the lane of which no job was reserved in this call.
abbrev pub IsNeedLeft : ℕ → List Work → List ℕ → List Entry → ℕ → Type 0
IsNeedLeft place works name added need =
    (need ≡ LONGEST_SETTLEMENT)
    ⊎ ((work : Work) × IsIn work works × (work.lane ≡ place) × IsNeedOf name work.jobs need × ((job : Job) → IsIn job work.jobs → times_reserved job.id added ≡ 0))

module _ {D B C : Type 0} (told : Meaning D B C) (counts : D → Counts) (port : B → PortState) (lines : C → ℕ → List Line) where
  -- The lane while it was shared, and then with one sender: when all pieces were through it was at home, so that each packet that
  -- was reserved since its opening had left once, with the polls of the pieces.
  pub record IsCourse (settings : Settings) (place : ℕ) (watch : List (ℕ × JobId)) (old new : LaneValue D) : Type 0 where
    pub shared : LaneValue D
    pub before : IsLaterLane told counts port lines old shared
    pub at_home : IsAtHome told counts port lines settings.batch shared
    pub alone : IsWorkedAlone told counts port lines settings place watch shared new

  -- What so many senders leave of the lane at a place that they shared, with up to `batch` jobs reserved together: it is at home,
  -- later, and longer by reservations of the lane's pieces and settlements, the last of which may be lost.
  pub record IsShared (batch senders : ℕ) (works : List Work) (place : ℕ) (old shared : LaneValue D) : Type 0 where
    pub later : IsLaterLane told counts port lines old shared
    pub at_home : IsAtHome told counts port lines batch shared
    pub kept_end : (end : LaneErr) → old.end ≡ Some end → shared.end ≡ Some end
    pub added : List Entry
    pub entries : with_lost shared ≡ with_lost old ++ added
    pub by_senders : Each (λ entry. (1 ≤ by_of entry) × (by_of entry ≤ senders)) added
    pub made : Each (IsMadeFor old.name (jobs_at place works)) added
    pub once : (id : JobId) → times_reserved id added ≤ 1
    pub each : shared.end ≡ None → (job : Job) → IsIn job (jobs_at place works) → times_reserved job.id added ≡ 1
    pub need : (length need : ℕ) → shared.end ≡ Some (lane_err.Full length need) → old.end ≡ None → IsNeedLeft place works old.name added need

  -- What a session's work leaves of the lane at a place.
  pub record IsWorked (settings : Settings) (works : List Work) (watch : List (ℕ × JobId)) (place : ℕ) (old new : LaneValue D) : Type 0 where
    -- it is later, and what it kept since an opening it keeps
    pub later : IsLaterLane told counts port lines old new
    -- each end is founded, and one that was there stays
    pub founded : (end : LaneErr) → new.end ≡ Some end → IsFounded counts new.opened.counts new end
    pub kept_end : (end : LaneErr) → old.end ≡ Some end → new.end ≡ Some end
    pub live : new.end ≡ None → new.is_stale ≡ false
    pub whole : new.end ≡ None → new.lost ≡ []
    -- what was added, and behind it what was lost, has the number of a sender, and is a reservation of a job of the lane's
    -- pieces or a settlement
    pub added : List Entry
    pub entries : with_lost new ≡ with_lost old ++ added
    pub senders : Each (λ entry. (1 ≤ by_of entry) × (by_of entry ≤ settings.senders)) added
    pub made : Each (IsMadeFor old.name (jobs_at place works)) added
    -- each job was reserved once at most, with what was lost, and once where the lane has no end
    pub once : (id : JobId) → times_reserved id added ≤ 1
    pub each : new.end ≡ None → (job : Job) → IsIn job (jobs_at place works) → times_reserved job.id added ≡ 1
    -- want of room has a need of this call
    pub need : (length need : ℕ) → new.end ≡ Some (lane_err.Full length need) → old.end ≡ None → IsNeedLeft place works old.name added need
    -- departures and polls
    pub course : IsCourse settings place watch old new

  -- A lane on which nothing was done: it has its entries, what it lost and its end, and is at home.
  pub record IsUntouched (batch : ℕ) (place : ℕ) (old new : LaneValue D) : Type 0 where
    pub later : IsLaterLane told counts port lines old new
    pub at_home : IsAtHome told counts port lines batch new
    pub entries : with_lost new ≡ with_lost old
    pub end : new.end ≡ old.end
