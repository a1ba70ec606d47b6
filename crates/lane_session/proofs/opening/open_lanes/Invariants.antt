use Rattle.lane_session.specs.Opening.{AreOpenedBelow}
use Rattle.lane_session.proofs.opening.open_lanes.Given as goal

abbrev pub invariant-loop-number : goal.invariant-loop-number
invariant-loop-number g l = AreOpenedBelow g.T.DiskCalls.told g.T.DiskCalls.counts l.fn.sites l.sites l.lanes.items l.number
