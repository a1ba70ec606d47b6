-- By which answer a lane may end.
use Rattle.std.specs.Prelude.{◌≡◌, ◌⊎◌, false, ℕ, ◌+◌, ◌<◌, ◌≤◌, All, List, [], length}
use Rattle.disk_model.specs.Counts.{Counts, HasRisen}
use Rattle.gate_log.specs.Opening.{LIMIT}
use Rattle.ota_core.specs.Keyset.{Keyset}
use Rattle.ota_core.specs.declared.entries.Entry.{Entry}
use Rattle.ota_core.specs.declared.jobs.Job.{Job}
use Rattle.ota_core.specs.declared.keysets.KeysetFacts.{KeysetFacts}
use Rattle.counter_journal.specs.EntryRanges.{IsEntry}
use Rattle.site_model.specs.declared.site_faults.SiteFault.TheVariants as fault
use Rattle.lane_engine.specs.Adding.{need_for}
use Rattle.lane_engine.specs.LaneValue.{LaneValue}
use Rattle.lane_engine.specs.Polling.{LONGEST_SETTLEMENT}
use Rattle.lane_engine.specs.Reserving.{IsJobOf, reserves_of, opens_of}
use Rattle.lane_engine.specs.declared.answers.LaneErr.{LaneErr}
use Rattle.lane_engine.specs.declared.answers.LaneErr.TheVariants as lane_err

-- so many octets are needed by 1 to 16 reservations of jobs of the lane, which a journal takes
pub record IsNeedOfReserves (lane lanes need : ℕ) : Type 0 where
  pub by : ℕ
  pub moment : ℕ
  pub name : List ℕ
  pub past : List Entry
  pub jobs : List Job
  pub some : 1 ≤ length jobs
  pub few : length jobs ≤ 16
  pub short : length name ≤ 32
  pub of_lane : All (IsJobOf lane lanes) jobs
  pub fit : All IsEntry (reserves_of by moment name past jobs)
  pub need_is : need ≡ need_for (reserves_of by moment name past jobs)

-- so many octets are needed by 1 to 16 Opens, which a journal takes
pub record IsNeedOfOpens (need : ℕ) : Type 0 where
  pub by : ℕ
  pub moment : ℕ
  pub keysets : List (Keyset × KeysetFacts)
  pub some : 1 ≤ length keysets
  pub few : length keysets ≤ 16
  pub fit : All IsEntry (opens_of by moment [] keysets)
  pub need_is : need ≡ need_for (opens_of by moment [] keysets)

-- The answer of a call ends a lane: want of memory always; a fault of the site where its count rose since the opening; and
-- no room in the journal of a lane that isn't stale for the longest settlement, for reservations or for Opens.
abbrev pub IsFounded : {D : Type 0} → (D → Counts) → Counts → LaneValue D → LaneErr → Type 0
IsFounded counts before lane lane_err.Memory = Unit {0}
IsFounded counts before lane (lane_err.SiteFault fault.Failed) = HasRisen before.faults (counts lane.site).faults
IsFounded counts before lane (lane_err.SiteFault fault.Memory) = HasRisen before.wants (counts lane.site).wants
IsFounded counts before lane (lane_err.Full length need) = (length ≡ lane.journal.length) × (lane.is_stale ≡ false) × (LIMIT < length + need)
    × ((need ≡ LONGEST_SETTLEMENT) ⊎ IsNeedOfReserves lane.journal.lane lane.journal.lanes need ⊎ IsNeedOfOpens need)
IsFounded counts before lane refusal = ⊥
