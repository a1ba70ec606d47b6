use Rattle.std.proofs.Common.{◌≡◌, false}
use Rattle.lane_engine.specs.LaneValue.{IsSameHearing}
use Rattle.lane_engine.proofs.FromLemmas.{HasBuilt}
use Rattle.lane_engine.proofs.lanes.Lane.send_from.Given as goal

abbrev pub invariant-loop-position : goal.invariant-loop-position
invariant-loop-position g l =
    (l.self.journal ≡ l.fn.self.journal) × (l.self.is_stale ≡ false) × IsSameHearing l.fn.self l.self
    × HasBuilt g.T.DiskCalls.told g.T.DiskCalls.counts g.T.SiteCalls.port g.T.SiteCalls.lines l.fn.self.journal.entries l.fn.self.site l.fn.first l.self.site l.position × (l.self.lost ≡ l.fn.self.lost)
