use Rattle.std.proofs.Common.{◌≡◌, false, subst}
use Rattle.disk_model.specs.Disk.{Tells}
use Rattle.counter_journal.specs.JournalReading.{IsReady}
use Rattle.lane_engine.specs.LaneValue.{LaneValue}
use Rattle.lane_engine.proofs.lanes.Lane.into_parts.Goals as goal

pub returns-clause-ready : goal.returns-clause-ready
returns-clause-ready g c =
    subst (λ (v : LaneValue g.row.T.Denot). v.is_stale ≡ false → Tells g.T.DiskCalls.told v.site → IsReady g.T.DiskCalls.told v.site v.journal) c.self.view_is
    (λ live tells. c.self.invariant.ready live tells)
