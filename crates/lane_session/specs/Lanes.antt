-- All lanes of a session, each with its site: by their number from 0.
use Rattle.std.specs.Prelude.{◌≡◌, ℕ, ◌<◌, ◌≤◌, List, [], length, slice_index_or}
use Rattle.disk_model.specs.Counts.{Counts}
use Rattle.disk_model.specs.Disk.{Meaning}
use Rattle.ota_core.specs.declared.jobs.Job.{Job}
use Rattle.plan_reader.specs.declared.plans.Plan.{Plan}
use Rattle.counter_journal.specs.EntryRanges.{LONGEST_BODY}
use Rattle.lane_session.specs.Run.{IsLaneReady, IsPassed, AreServed}
use Rattle.lane_session.specs.Opens.{AreOpened}
use Rattle.lane_session.specs.declared.lanes.Lane.{Lane}

-- a script of 1 to 4,096 octets
abbrev pub HasScript : Job → Type 0
HasScript job = (1 ≤ length job.body) × (length job.body ≤ LONGEST_BODY)

module _ {D B C : Type 0} (told : Meaning D B C) (counts : D → Counts) where
  -- each lane that goes on is ready for an addition
  pub record AreReady (sites : List D) (lanes : List Lane) : Type 0 where
    pub some : 0 < length lanes
    pub each_site : length sites ≡ length lanes
    pub each : (k : ℕ) (site : D) (lane : Lane) → k < length lanes
        → IsLaneReady told counts k (length lanes) (slice_index_or sites k site) (slice_index_or lanes k lane)

  -- what became of the lanes in a part of the session
  pub record ArePassed (plan : Plan) (jobs : List Job) (starts : List D) (befores : List Lane) (sites : List D) (lanes : List Lane) : Type 0 where
    pub same_lanes : length lanes ≡ length befores
    pub same_sites : length sites ≡ length starts
    pub each : (k : ℕ) (start site : D) (before lane : Lane) → k < length befores
        → IsPassed told counts plan jobs k (length befores) (slice_index_or starts k start) (slice_index_or befores k before) (slice_index_or sites k site) (slice_index_or lanes k lane)

-- the first rows are served on each lane that goes on
abbrev pub AllServed : List Job → ℕ → List Lane → Type 0
AllServed jobs count lanes = (k : ℕ) (lane : Lane) → k < length lanes → AreServed k (length lanes) jobs count (slice_index_or lanes k lane)

-- the keysets of the rows are opened on each lane that goes on
abbrev pub AllOpened : Plan → List Job → List Lane → Type 0
AllOpened plan jobs lanes = (k : ℕ) (lane : Lane) → k < length lanes → AreOpened plan jobs k (length lanes) (length jobs) (slice_index_or lanes k lane) []
