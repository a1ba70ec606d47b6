use Rattle.lane_session.specs.Formatting.{AreFormattedBelow}
use Rattle.lane_session.proofs.formatting.format_lanes.Given as goal

abbrev pub invariant-loop-number : goal.invariant-loop-number
invariant-loop-number g l = AreFormattedBelow g.T.DiskCalls.told g.T.DiskCalls.counts l.fn.sites l.sites l.number
