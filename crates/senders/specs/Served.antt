-- What becomes of a lane under one hold.
use Rattle.std.specs.Prelude.{◌≡◌, ◌⊎◌, ℕ, Bool, true, false, List, [], ◌++◌, reverse, Option, Some, None}
use Rattle.disk_model.specs.Counts.{Counts}
use Rattle.disk_model.specs.Disk.{Meaning}
use Rattle.ota_core.specs.Entry.{by_of}
use Rattle.ota_core.specs.declared.entries.Entry.{Entry}
use Rattle.ota_core.specs.declared.entries.Entry.TheVariants.{Reserve}
use Rattle.ota_core.specs.declared.jobs.Job.{Job}
use Rattle.site_model.specs.Port.{PortState}
use Rattle.world_core.specs.declared.lines.Line.{Line}
use Rattle.lane_lock.specs.Numbers.{total, Each, IsIn}
use Rattle.lane_engine.specs.Adding.{is_settlement, need_for}
use Rattle.lane_engine.specs.Keeping.{IsAtHome, IsLaterLane}
use Rattle.lane_engine.specs.LaneValue.{LaneValue}
use Rattle.lane_engine.specs.Polling.{LONGEST_SETTLEMENT}
use Rattle.lane_engine.specs.Reserving.{jobs_refusal, reserves_of}
use Rattle.lane_engine.specs.declared.answers.LaneErr.{LaneErr}
use Rattle.lane_engine.specs.declared.answers.LaneErr.TheVariants as lane_err

-- the job that an entry reserves
abbrev pub job_in : Entry → Option Job
job_in (Reserve by moment keyset counter job tar name body) = Some (record { id = job; keyset = keyset; tar = tar; body = body })
job_in _ = None

abbrev pub weigh_if : (Job → ℕ) → Option Job → ℕ
weigh_if h None = 0
weigh_if h (Some job) = h job

-- what the job weighs that an entry reserves
abbrev pub weigh_entry : (Job → ℕ) → Entry → ℕ
weigh_entry h entry = weigh_if h (job_in entry)

-- the entry reserves one of these jobs under this name, with the keyset, the TAR and the script of the job
pub record IsReservationFor (name : List ℕ) (jobs : List Job) (entry : Entry) : Type 0 where
  pub job : Job
  pub is_there : IsIn job jobs
  pub by : ℕ
  pub moment : ℕ
  pub counter : ℕ
  pub is : entry ≡ Reserve by moment job.keyset counter job.id job.tar name job.body

-- the entry settles a counter, or reserves one of these jobs
abbrev pub IsMadeFor : List ℕ → List Job → Entry → Type 0
IsMadeFor name jobs entry = (is_settlement entry ≡ true) ⊎ IsReservationFor name jobs entry

-- the history of a lane, and behind it what it lost
abbrev pub with_lost : {D : Type 0} → LaneValue D → List Entry
with_lost lane = lane.journal.entries ++ lane.lost

-- the history refuses the jobs for this reason
abbrev pub IsRefusedBy : List Entry → List Job → LaneErr → Type 0
IsRefusedBy entries jobs refusal = (by : ℕ) × (moment : ℕ) × (name : List ℕ) × (jobs_refusal by moment name (reverse entries) jobs ≡ Some refusal)

-- so many octets are needed by the reservations of these jobs
abbrev pub IsNeedOf : List ℕ → List Job → ℕ → Type 0
IsNeedOf name jobs need = (by : ℕ) × (moment : ℕ) × (past : List Entry) × (need ≡ need_for (reserves_of by moment name past jobs))

-- an end by want of room has the need of the longest settlement
abbrev pub EndsByPoll : Option LaneErr → Type 0
EndsByPoll end = (length need : ℕ) → end ≡ Some (lane_err.Full length need) → need ≡ LONGEST_SETTLEMENT

-- it has that need, or the need of the reservations of these jobs
abbrev pub EndsBefore : List ℕ → List Job → Option LaneErr → Type 0
EndsBefore name jobs end = (length need : ℕ) → end ≡ Some (lane_err.Full length need) → (need ≡ LONGEST_SETTLEMENT) ⊎ IsNeedOf name jobs need

-- What came of the jobs: each was reserved once, or lost; or none, and the lane ended; or the history refused them, and the
-- lane has no end.
abbrev pub Outcome : {D : Type 0} → List Job → (old new : LaneValue D) → List Entry → Option LaneErr → Type 0
Outcome jobs old new added refused =
    ((refused ≡ None) × EndsByPoll new.end × ((h : Job → ℕ) → total (weigh_entry h) added ≡ total h jobs))
    ⊎ ((refused ≡ None) × (added ≡ []) × EndsBefore old.name jobs new.end × ((end : LaneErr) × (new.end ≡ Some end)))
    ⊎ ((added ≡ []) × (new.end ≡ None) × ((refusal : LaneErr) × (refused ≡ Some refusal) × IsRefusedBy (with_lost old) jobs refusal))

module _ {D B C : Type 0} (told : Meaning D B C) (counts : D → Counts) (port : B → PortState) (lines : C → ℕ → List Line) where
  -- A lane that was at home is at home again, later, and longer by entries that the sender made for its jobs, of which the last
  -- may be lost.
  pub record IsServed (pace by : ℕ) (jobs : List Job) (old new : LaneValue D) (refused : Option LaneErr) : Type 0 where
    pub later : IsLaterLane told counts port lines old new
    pub at_home : IsAtHome told counts port lines pace new
    pub added : List Entry
    pub entries : with_lost new ≡ with_lost old ++ added
    pub by_own : Each (λ entry. by_of entry ≡ by) added
    pub made : Each (IsMadeFor old.name jobs) added
    pub outcome : Outcome jobs old new added refused

-- a lane ends by the answer
abbrev pub ends_lane : LaneErr → Bool
ends_lane lane_err.Memory = true
ends_lane (lane_err.SiteFault fault) = true
ends_lane (lane_err.Full length need) = true
ends_lane _ = false

-- the answer became the lane's end, or it came back and the lane is as it was
abbrev pub IsStopped : {D : Type 0} → LaneValue D → LaneValue D → LaneErr → Option LaneErr → Type 0
IsStopped old new error None = (ends_lane error ≡ true) × (new ≡ record old { end = Some error })
IsStopped old new error (Some refusal) = (ends_lane error ≡ false) × (refusal ≡ error) × (new ≡ old)
