-- When a command answers what. Each fault has its cause; and where nothing is amiss, the answer is none, or that memory or
-- room is wanting.
use Rattle.std.specs.Prelude.{◌≡◌, ◌⊎◌, ℕ, ◌+◌, ◌<◌, Bool, true, false, Option, Some, None, Result, Ok, List, [], length, slice_index_or}
use Rattle.disk_model.specs.Counts.{Counts, HasRisen as DiskRisen}
use Rattle.disk_model.specs.Disk.{Meaning, Tells}
use Rattle.gate_log.specs.declared.log_errors.LogErr.{LogErr}
use Rattle.gate_log.specs.declared.log_errors.LogErr.TheVariants as log_err
use Rattle.gate_log.specs.Answers.{Refuses}
use Rattle.gate_log.specs.Formatting.{IsMade}
use Rattle.gate_log.specs.Opening.{LIMIT}
use Rattle.gate_log.specs.Reading.{parts_of}
use Rattle.ota_io.specs.Calls.{HasRisen}
use Rattle.ota_core.specs.declared.entries.Entry.{Entry}
use Rattle.ota_core.specs.declared.jobs.Job.{Job}
use Rattle.plan_reader.specs.declared.plans.Plan.{Plan}
use Rattle.counter_journal.specs.EntryRanges.{IsHistory}
use Rattle.counter_journal.specs.Journal.{journal_head}
use Rattle.counter_journal.specs.JournalMaking.{IsUnmade}
use Rattle.counter_journal.specs.JournalReading.{Holds, JournalRefuses}
use Rattle.lane_session.specs.Differences.{keyset_difference, job_difference}
use Rattle.ota_commands.specs.Inputs.{Input, source_input, Says, ReadFaultComes, plan_reading, jobs_reading}
use Rattle.ota_commands.specs.Ends.{two_at}
use Rattle.ota_commands.specs.declared.words.Command.{Command}
use Rattle.ota_commands.specs.declared.words.Command.TheVariants.{Format, Reserve, Packet}
use Rattle.ota_commands.specs.declared.faults.Which.TheVariants as which
use Rattle.ota_commands.specs.declared.faults.Fault.{Fault}
use Rattle.ota_commands.specs.declared.faults.Fault.TheVariants.{Usage, PlanRefused, JobsRefused, InputTooLong, JobDiffers, KeysetDiffers, SourceFault, SinkFault, SiteFault, NotAJournal, WrongLane, Damaged, Full, Unformatted, Memory}

-- What a call was handed: the command that its words say for so many sites, the two inputs, the sites before and after the
-- call, and the counts of faults of the sink.
pub record Seen (D : Type 0) : Type 0 where
  pub command : Option Command
  pub plan : Input
  pub jobs : Input
  pub olds : List D
  pub news : List D
  pub sink_before : ℕ
  pub sink_now : ℕ

-- by what the call was handed, before and after it
abbrev pub seen_of : {D K S : Type 0} → (S → Bool) → (S → List ℕ) → (S → ℕ) → (K → ℕ) → Option Command → List D → List D → S → S → S → S → K → K → Seen D
seen_of tells left source_faults sink_faults command olds news plan_old plan_new jobs_old jobs_new sink_old sink_new = record {
  command = command;
  plan = source_input tells left source_faults plan_old plan_new;
  jobs = source_input tells left source_faults jobs_old jobs_new;
  olds = olds;
  news = news;
  sink_before = sink_faults sink_old;
  sink_now = sink_faults sink_new;
}

-- the command reads a plan and jobs
abbrev pub reads : Option Command → Bool
reads (Some Reserve) = true
reads (Some Packet) = true
reads _ = false

-- the command reads, and the plan and the jobs are what the inputs say
pub record AreRead {D : Type 0} (seen : Seen D) : Type 0 where
  pub command : reads seen.command ≡ true
  pub plan : Plan
  pub jobs : List Job
  pub plan_said : Says plan_reading seen.plan plan
  pub jobs_said : Says (jobs_reading plan) seen.jobs jobs

-- the plan is what its input says, and the jobs have this fault
pub record JobsFail {D : Type 0} (seen : Seen D) (fault : Fault) : Type 0 where
  pub command : reads seen.command ≡ true
  pub plan : Plan
  pub plan_said : Says plan_reading seen.plan plan
  pub comes : ReadFaultComes which.Jobs (jobs_reading plan) seen.jobs fault

-- the plan has this fault
abbrev pub PlanFails : {D : Type 0} → Seen D → Fault → Type 0
PlanFails seen fault = (reads seen.command ≡ true) × ReadFaultComes which.Plan plan_reading seen.plan fault

-- the sites are called
abbrev pub ReachesSites : {D : Type 0} → Seen D → Type 0
ReachesSites seen = (seen.command ≡ Some Format) ⊎ AreRead seen

-- on these octets the journal of the lane can be made, or it stands
abbrev pub CanStand : ℕ → ℕ → List ℕ → Type 0
CanStand lane lanes octets = IsUnmade lane lanes octets ⊎ IsMade (parts_of (journal_head lane lanes) octets)

module _ {D B C : Type 0} (told : Meaning D B C) where
  -- the sites below this number, where they tell, hold these histories of their lanes
  abbrev pub HoldBelow : List D → List (List Entry) → ℕ → Type 0
  HoldBelow sites histories number = (k : ℕ) (site : D) → k < number → Tells told (slice_index_or sites k site)
      → IsHistory k (length sites) (slice_index_or histories k []) × Holds k (length sites) (slice_index_or histories k []) (told.seen (slice_index_or sites k site))

  -- the first journal that can't be opened is that of this lane, and it is refused so
  pub record IsRefused (sites : List D) (number : ℕ) (error : LogErr) : Type 0 where
    pub within : number < length sites
    pub below : (k : ℕ) (site : D) → k < number → Tells told (slice_index_or sites k site)
        → (entries : List Entry) × IsHistory k (length sites) entries × Holds k (length sites) entries (told.seen (slice_index_or sites k site))
    pub refuses : (site : D) → Tells told (slice_index_or sites number site)
        → JournalRefuses number (length sites) (parts_of (journal_head number (length sites)) (told.seen (slice_index_or sites number site))) error

  -- the first site on which the journal can't be made is that of this lane, and it is refused so
  pub record IsRefusedFormat (sites : List D) (number : ℕ) (error : LogErr) : Type 0 where
    pub within : number < length sites
    pub below : (k : ℕ) (site : D) → k < number → Tells told (slice_index_or sites k site) → CanStand k (length sites) (told.seen (slice_index_or sites k site))
    pub refuses : (site : D) → Tells told (slice_index_or sites number site)
        → Refuses (parts_of (journal_head number (length sites)) (told.seen (slice_index_or sites number site))) error

  -- refused by either command
  abbrev pub IsRefusedBy : Seen D → ℕ → LogErr → Type 0
  IsRefusedBy seen number error =
      ((seen.command ≡ Some Format) × IsRefusedFormat seen.olds number error) ⊎ (AreRead seen × IsRefused seen.olds number error)

  -- the histories that the journals hold differ so from the plan and the rows
  pub record Differ (seen : Seen D) (Differs : Plan → List Job → List (List Entry) → Type 0) : Type 0 where
    pub read : AreRead seen
    pub histories : List (List Entry)
    pub each : length histories ≡ length seen.olds
    pub hold : HoldBelow seen.olds histories (length seen.olds)
    pub differs : Differs read.plan read.jobs histories

-- the count of faults of the site of this lane rose in the call
pub record SiteFails {D : Type 0} (counts : D → Counts) (seen : Seen D) (number : ℕ) : Type 0 where
  pub reaches : ReachesSites seen
  pub within : number < length seen.olds
  pub risen : (old new : D) → DiskRisen (counts (slice_index_or seen.olds number old)).faults (counts (slice_index_or seen.news number new)).faults

-- a log has no room for so many octets more
pub record IsTooLong {D : Type 0} (seen : Seen D) (number len need : ℕ) : Type 0 where
  pub command : seen.command ≡ Some Reserve
  pub read : AreRead seen
  pub within : number < length seen.olds
  pub longer : LIMIT < len + need

-- no fault, or want of memory
abbrev pub IsDone : Option Fault → Type 0
IsDone None = Unit {0}
IsDone (Some Memory) = Unit {0}
IsDone (Some fault) = ⊥

-- no fault, or want of memory or of room in a journal
abbrev pub IsDoneUnlessFull : Option Fault → Type 0
IsDoneUnlessFull (Some (Full lane len need)) = Unit {0}
IsDoneUnlessFull fault = IsDone fault

-- an input tells what it says, and its count of faults didn't rise
pub record IsSteady {T : Type 0} (reading : List ℕ → Result T Fault) (input : Input) (value : T) : Type 0 where
  pub octets : List ℕ
  pub says : input.octets ≡ Some octets
  pub reads : reading octets ≡ Ok value
  pub steady : ¬ HasRisen input.before input.now

module _ {D B C : Type 0} (told : Meaning D B C) (counts : D → Counts) where
  -- the cause of each fault
  abbrev pub Comes : Seen D → Fault → Type 0
  Comes seen Usage = seen.command ≡ None
  Comes seen (PlanRefused table row field) = PlanFails seen (PlanRefused table row field)
  Comes seen (InputTooLong which.Plan) = PlanFails seen (InputTooLong which.Plan)
  Comes seen (SourceFault which.Plan) = PlanFails seen (SourceFault which.Plan)
  Comes seen (JobsRefused row column) = JobsFail seen (JobsRefused row column)
  Comes seen (InputTooLong which.Jobs) = JobsFail seen (InputTooLong which.Jobs)
  Comes seen (SourceFault which.Jobs) = JobsFail seen (SourceFault which.Jobs)
  Comes seen (Unformatted lane) = AreRead seen × IsRefused told seen.olds lane log_err.Unformatted
  Comes seen (NotAJournal lane) = IsRefusedBy told seen lane log_err.NotALog
  Comes seen (WrongLane lane other others) = (rest : List ℕ) × (two_at rest 0 1 ≡ other) × (two_at rest 2 3 ≡ others) × IsRefusedBy told seen lane (log_err.OtherHead rest)
  Comes seen (Damaged lane number) = AreRead seen × IsRefused told seen.olds lane (log_err.Damaged number)
  Comes seen (KeysetDiffers keyset) = Differ told seen (λ plan jobs histories. keyset_difference plan histories ≡ Some keyset)
  Comes seen (JobDiffers row counter) =
      Differ told seen (λ plan jobs histories. (keyset_difference plan histories ≡ None) × (job_difference jobs histories ≡ Some (row, counter)))
  Comes seen (SiteFault lane) = SiteFails counts seen lane
  Comes seen (Full lane len need) = IsTooLong seen lane len need
  Comes seen SinkFault = ReachesSites seen × HasRisen seen.sink_before seen.sink_now
  Comes seen Memory = Unit {0}
  Comes seen _ = ⊥

  -- ---- where nothing is amiss

  -- the sites tell, and none failed
  pub record AreSteady (seen : Seen D) : Type 0 where
    pub tell : (k : ℕ) (site : D) → k < length seen.olds → Tells told (slice_index_or seen.olds k site)
    pub sites : (k : ℕ) (old new : D) → k < length seen.olds → ¬ DiskRisen (counts (slice_index_or seen.olds k old)).faults (counts (slice_index_or seen.news k new)).faults
    pub sink : ¬ HasRisen seen.sink_before seen.sink_now

  -- nothing is amiss with the making of the journals
  pub record CanFormat (seen : Seen D) : Type 0 where
    pub command : seen.command ≡ Some Format
    pub steady : AreSteady seen
    pub stand : (k : ℕ) (site : D) → k < length seen.olds → CanStand k (length seen.olds) (told.seen (slice_index_or seen.olds k site))

  -- nothing is amiss with a command that reads: the inputs have readings, the journals hold histories, and these don't differ
  pub record CanRun (said : Command) (seen : Seen D) : Type 0 where
    pub command : seen.command ≡ Some said
    pub steady : AreSteady seen
    pub plan : Plan
    pub jobs : List Job
    pub plan_read : IsSteady plan_reading seen.plan plan
    pub jobs_read : IsSteady (jobs_reading plan) seen.jobs jobs
    pub histories : List (List Entry)
    pub each : length histories ≡ length seen.olds
    pub hold : HoldBelow told seen.olds histories (length seen.olds)
    pub keysets : keyset_difference plan histories ≡ None
    pub rows : job_difference jobs histories ≡ None

  -- where nothing is amiss, the command does its work
  pub record IsComplete (seen : Seen D) (fault : Option Fault) : Type 0 where
    pub format : CanFormat seen → IsDone fault
    pub reserve : CanRun Reserve seen → IsDoneUnlessFull fault
    pub packet : CanRun Packet seen → IsDone fault

module _ {D B C : Type 0} (told : Meaning D B C) where
  -- on each site the journal of its lane stands and opens
  abbrev pub AllOpen : List D → Type 0
  AllOpen sites = (k : ℕ) (site : D) → k < length sites
      → (entries : List Entry) × IsHistory k (length sites) entries × Holds k (length sites) entries (told.seen (slice_index_or sites k site))
