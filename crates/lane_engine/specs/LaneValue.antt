-- What contracts see of a lane.
use Rattle.std.specs.Prelude.{◌≡◌, ℕ, ◌≤◌, Bool, false, Option, List, [], length}
use Rattle.disk_model.specs.Disk.{Meaning, Tells}
use Rattle.ota_core.specs.declared.entries.Entry.{Entry}
use Rattle.counter_journal.specs.EntryRanges.{IsHistory}
use Rattle.counter_journal.specs.JournalReading.{JournalValue, IsReady}
use Rattle.sms_segments.specs.Kept.{Kept}
use Rattle.lane_engine.specs.Opening.{Opening}
use Rattle.lane_engine.specs.Receipts.{RESPONSE}
use Rattle.lane_engine.specs.declared.answers.LaneErr.{LaneErr}

-- its site and journal; whether a call of the site answered a fault since the opening; the pieces of messages that it
-- keeps; the moment and the name for the entries to come; its end, where one is set; how it was opened; and the batch whose
-- addition answered a fault, of which a stop may leave all or nothing
pub record LaneValue (D : Type 0) : Type 0 where
  pub site : D
  pub journal : JournalValue
  pub is_stale : Bool
  pub heard : Kept
  pub moment : ℕ
  pub name : List ℕ
  pub end : Option LaneErr
  pub opened : Opening
  pub lost : List Entry

-- What holds of each lane: its entries are a history of the lane; unless it is stale, its journal is ready on its site; it
-- hears response packets; its name has at most 32 octets; and nothing is lost before a fault.
pub record IsLane {D B C : Type 0} (told : Meaning D B C) (lane : LaneValue D) : Type 0 where
  pub history : IsHistory lane.journal.lane lane.journal.lanes lane.journal.entries
  pub ready : lane.is_stale ≡ false → Tells told lane.site → IsReady told lane.site lane.journal
  pub element : lane.heard.element ≡ RESPONSE
  pub short : length lane.name ≤ 32
  pub whole : lane.is_stale ≡ false → lane.lost ≡ []

-- its moment, its name and its end are as they were, and it is of the same opening
pub record IsSameSettings {D : Type 0} (old new : LaneValue D) : Type 0 where
  pub moment : new.moment ≡ old.moment
  pub name : new.name ≡ old.name
  pub end : new.end ≡ old.end
  pub opened : new.opened ≡ old.opened

-- nothing was heard, and it has the same number among as many lanes
pub record IsSameHearing {D : Type 0} (old new : LaneValue D) : Type 0 where
  pub element : new.heard.element ≡ old.heard.element
  pub pieces : new.heard.pieces ≡ old.heard.pieces
  pub lane : new.journal.lane ≡ old.journal.lane
  pub lanes : new.journal.lanes ≡ old.journal.lanes
  pub settings : IsSameSettings old new

-- only the room of the journal and that of what is heard are others
pub record IsSameLane {D : Type 0} (old new : LaneValue D) : Type 0 where
  pub site : new.site ≡ old.site
  pub entries : new.journal.entries ≡ old.journal.entries
  pub length : new.journal.length ≡ old.journal.length
  pub is_stale : new.is_stale ≡ old.is_stale
  pub lost : new.lost ≡ old.lost
  pub rest : IsSameHearing old new
