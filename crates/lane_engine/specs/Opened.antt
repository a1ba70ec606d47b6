-- What an opening gives.
use Rattle.std.specs.Prelude.{◌≡◌, ℕ, false, [], None, Result, Ok, Err}
use Rattle.disk_model.specs.Counts.{Counts}
use Rattle.gate_log.specs.declared.log_errors.LogErr.{LogErr}
use Rattle.counter_journal.specs.JournalReading.{JournalValue}
use Rattle.sms_segments.specs.Kept.{Keeps}
use Rattle.lane_engine.specs.Opening.{Opening}
use Rattle.lane_engine.specs.LaneValue.{LaneValue}
use Rattle.lane_engine.specs.Receipts.{RESPONSE}

-- the site after it
abbrev pub site_in : {D : Type 0} → Result (LaneValue D) (D × LogErr) → D
site_in (Ok lane) = lane.site
site_in (Err error) = error.0

-- its answer as that of the journal
abbrev pub journal_in : {D : Type 0} → Result (LaneValue D) (D × LogErr) → Result JournalValue LogErr
journal_in (Ok lane) = Ok lane.journal
journal_in (Err error) = Err error.1

-- a lane that was opened: nothing was heard or lost, the moment is 0, the name is empty, and it has no end
pub record IsNew {D : Type 0} (lane lanes : ℕ) (opened : LaneValue D) : Type 0 where
  pub lane_is : opened.journal.lane ≡ lane
  pub lanes_are : opened.journal.lanes ≡ lanes
  pub not_stale : opened.is_stale ≡ false
  pub lost : opened.lost ≡ []
  pub silent : Keeps RESPONSE [] opened.heard.pieces
  pub moment : opened.moment ≡ 0
  pub name : opened.name ≡ []
  pub end : opened.end ≡ None

-- the opening of the lane, from a site with this clock and these counts, to one with that clock
abbrev pub opening_of : {D : Type 0} → LaneValue D → (clock ready : ℕ) → Counts → Opening
opening_of lane clock ready counts = record {
  lane = lane.journal.lane;
  lanes = lane.journal.lanes;
  entries = lane.journal.entries;
  clock = clock;
  ready = ready;
  counts = counts;
}
