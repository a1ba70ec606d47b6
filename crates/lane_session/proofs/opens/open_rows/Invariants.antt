use Rattle.lane_session.specs.Lanes.{ArePassed}
use Rattle.lane_session.proofs.LaneLaws.{OpenedBelow}
use Rattle.lane_session.proofs.OpenOrderLaws.{OrderBelow}
use Rattle.lane_session.proofs.opens.open_rows.Given as goal

abbrev pub invariant-loop-number : goal.invariant-loop-number
invariant-loop-number g l =
    ArePassed g.T.DiskCalls.told g.T.DiskCalls.counts l.fn.plan l.fn.jobs l.fn.sites l.fn.lanes l.sites l.lanes
    × OpenedBelow g.T.DiskCalls.told l.fn.plan l.fn.jobs l.fn.sites l.fn.lanes l.sites l.lanes l.number
    × OrderBelow l.fn.plan l.fn.jobs l.fn.lanes l.lanes l.number
