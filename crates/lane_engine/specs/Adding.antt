-- What becomes of a batch of entries that a call adds to the lane's history.
use Rattle.std.specs.Prelude.{◌≡◌, ◌⊎◌, ℕ, ◌+◌, ◌<◌, ◌≤◌, Bool, true, false, max, All, None, Some, Option, List, [], ◌∷◌, ◌++◌, length, reverse, Result, Ok, Err}
use Rattle.std.specs.List.{list_all}
use Rattle.disk_model.specs.Counts.{Counts, HasRisen}
use Rattle.disk_model.specs.Disk.{Meaning, DiskRun}
use Rattle.gate_log.specs.Opening.{LIMIT, need_of}
use Rattle.ota_core.specs.Questions.{last_moment}
use Rattle.ota_core.specs.declared.entries.Entry.{Entry}
use Rattle.ota_core.specs.declared.entries.Entry.TheVariants as entry
use Rattle.counter_journal.specs.EntryRanges.{IsEntry}
use Rattle.counter_journal.specs.JournalReading.{JournalValue, parts_for, Holds}
use Rattle.site_model.specs.Port.{PortState}
use Rattle.site_model.specs.Cards.{port_now}
use Rattle.disk_model.specs.declared.faults.DiskFault.{DiskFault}
use Rattle.disk_model.specs.declared.faults.DiskFault.TheVariants as disk_fault
use Rattle.site_model.specs.declared.site_faults.SiteFault.{SiteFault}
use Rattle.site_model.specs.declared.site_faults.SiteFault.TheVariants as fault
use Rattle.world_core.specs.Condition.{is_answered}
use Rattle.world_core.specs.Run.{Runs}
use Rattle.world_core.specs.WorldState.{WorldState}
use Rattle.world_core.specs.declared.events.Event.{Event}
use Rattle.world_core.specs.declared.events.Event.TheVariants.{Begin, Seal}
use Rattle.world_core.specs.declared.lines.Line.{Line}
use Rattle.world_core.specs.declared.segments.Sent.{Sent}
use Rattle.lane_engine.specs.LaneValue.{LaneValue, IsSameLane, IsSameHearing}
use Rattle.lane_engine.specs.World.{world_of}
use Rattle.lane_engine.specs.declared.answers.LaneErr.{LaneErr}
use Rattle.lane_engine.specs.declared.answers.LaneErr.TheVariants as lane_err

-- the moment of the entries to come: the lane's, or that of the last entry where this is greater
abbrev pub moment_for : {D : Type 0} → LaneValue D → ℕ
moment_for lane = max lane.moment (last_moment (reverse lane.journal.entries))

-- the octets that a batch needs
abbrev pub need_for : List Entry → ℕ
need_for entries = need_of (parts_for entries)

-- the journal has room for the batch, where there is one
abbrev pub Fits : JournalValue → List Entry → Type 0
Fits journal [] = Unit {0}
Fits journal (entry ∷ entries) = journal.length + need_for (entry ∷ entries) ≤ LIMIT

-- it has none for a batch that it takes: the length of its log and the octets that the batch needs
abbrev pub IsFull : JournalValue → List Entry → ℕ → ℕ → Type 0
IsFull journal entries len need = (len ≡ journal.length) × (need ≡ need_for entries) × (LIMIT < len + need) × (1 ≤ length entries) × All IsEntry entries

-- The answer of a call that adds a batch, by the first cause in this order: the lane is stale; the refusal that the history
-- gives; want of memory; no room in the journal; a fault of the site.
abbrev pub AddingAnswer : {D : Type 0} → LaneValue D → Option LaneErr → List Entry → Result (Unit {0}) LaneErr → Type 0
AddingAnswer lane refusal batch (Ok done) = (lane.is_stale ≡ false) × (refusal ≡ None) × Fits lane.journal batch
AddingAnswer lane refusal batch (Err lane_err.Stale) = lane.is_stale ≡ true
AddingAnswer lane refusal batch (Err lane_err.Memory) = (lane.is_stale ≡ false) × (refusal ≡ None)
AddingAnswer lane refusal batch (Err (lane_err.Full length need)) = (lane.is_stale ≡ false) × (refusal ≡ None) × IsFull lane.journal batch length need
AddingAnswer lane refusal batch (Err (lane_err.SiteFault fault)) = (lane.is_stale ≡ false) × (refusal ≡ None) × Fits lane.journal batch
AddingAnswer lane refusal batch (Err named) = (lane.is_stale ≡ false) × (refusal ≡ Some named)

-- memory was there for the batch
abbrev pub UnlessWanting : Result (Unit {0}) LaneErr → Type 0 → Type 0
UnlessWanting (Err lane_err.Memory) P = Unit {0}
UnlessWanting result P = P

-- the history is longer by the batch
pub record IsAdded {D : Type 0} (old new : LaneValue D) (batch : List Entry) : Type 0 where
  pub entries : new.journal.entries ≡ old.journal.entries ++ batch
  pub is_stale : new.is_stale ≡ false
  pub lost : new.lost ≡ old.lost
  pub rest : IsSameHearing old new

-- the history is as it was, the batch is lost, and the lane is stale from now on
pub record IsStopped {D : Type 0} (old new : LaneValue D) (batch : List Entry) : Type 0 where
  pub entries : new.journal.entries ≡ old.journal.entries
  pub length : new.journal.length ≡ old.journal.length
  pub is_stale : new.is_stale ≡ true
  pub lost : new.lost ≡ batch
  pub rest : IsSameHearing old new

-- What a call leaves that adds a batch and does nothing else: at Ok the history is longer by it, and after a refusal the
-- lane is as it was.
abbrev pub IsAddition : {D : Type 0} → LaneValue D → LaneValue D → List Entry → Result (Unit {0}) LaneErr → Type 0
IsAddition old new batch (Ok done) = IsAdded old new batch
IsAddition old new batch (Err (lane_err.SiteFault fault)) = IsStopped old new batch
IsAddition old new batch (Err refusal) = IsSameLane old new

-- the fault of a site whose disk answered this one
abbrev pub site_fault : DiskFault → SiteFault
site_fault disk_fault.Failed = fault.Failed
site_fault disk_fault.Memory = fault.Memory

-- the entry settles a counter
abbrev pub is_settlement : Entry → Bool
is_settlement (entry.Done by moment keyset counter answer) = true
is_settlement (entry.Refused by moment keyset counter status) = true
is_settlement _ = false

-- the answer is no fault of the site
abbrev pub IsNoFault : LaneErr → Type 0
IsNoFault (lane_err.SiteFault fault) = ⊥
IsNoFault error = Unit {0}

-- neither count of faults rose
abbrev pub SameFaults : Counts → Counts → Type 0
SameFaults before now = (now.faults ≡ before.faults) × (now.wants ≡ before.wants)

-- a fault of the site comes only where its count rose
abbrev pub AnswerCause : {T : Type 0} → Counts → Counts → Result T LaneErr → Type 0
AnswerCause before now (Err (lane_err.SiteFault fault.Failed)) = HasRisen before.faults now.faults
AnswerCause before now (Err (lane_err.SiteFault fault.Memory)) = HasRisen before.wants now.wants
AnswerCause before now result = SameFaults before now

-- no count falls, and each answer but a fault leaves those of faults
pub record LaneCause {T : Type 0} (before now : Counts) (result : Result T LaneErr) : Type 0 where
  pub faults : before.faults ≤ now.faults
  pub wants : before.wants ≤ now.wants
  pub answer : AnswerCause before now result

-- the events by which a batch becomes durable; after a fault it is still being written
abbrev pub adding_events : List Entry → Result (Unit {0}) LaneErr → List Event
adding_events [] result = []
adding_events batch (Ok done) = Begin batch ∷ Seal ∷ []
adding_events batch (Err (lane_err.SiteFault fault)) = Begin batch ∷ []
adding_events batch (Err refusal) = []

-- the batch that is being written when a call ends: that of a fault
abbrev pub batch_left : List Entry → Result (Unit {0}) LaneErr → Option (List Entry)
batch_left batch (Err (lane_err.SiteFault fault)) = Some batch
batch_left batch result = None

module _ {D B C : Type 0} (told : Meaning D B C) (port : B → PortState) (lines : C → ℕ → List Line) where
  -- the lane's world, with what it sent and was given, and with the lines chosen for its cards
  abbrev pub lane_world : LaneValue D → (ℕ → List Line) → List Sent → List ℕ → WorldState
  lane_world lane chosen sent given = world_of lane.journal.entries (port_now told port lines lane.site) chosen sent given

  -- A call that adds a batch is these events. No card acts in it, and nothing is sent, given or asked of the port.
  pub record IsAddingRun (old new : LaneValue D) (batch : List Entry) (result : Result (Unit {0}) LaneErr) : Type 0 where
    pub port_stands : port_now told port lines new.site ≡ port_now told port lines old.site
    -- where each settlement in the batch answers what was given
    pub runs : (chosen : ℕ → List Line) (sent : List Sent) (given : List ℕ) → list_all (is_answered (port_now told port lines old.site).made given) batch ≡ true
        → Runs (lane_world old chosen sent given) (adding_events batch result) (record (lane_world new chosen sent given) { batch = batch_left batch result })
    -- at each moment a stop leaves the history as it was, or with the whole batch
    pub moments : old.is_stale ≡ false → DiskRun told old.site new.site (λ image. Holds old.journal.lane old.journal.lanes old.journal.entries image
        ⊎ Holds old.journal.lane old.journal.lanes (old.journal.entries ++ batch) image)
