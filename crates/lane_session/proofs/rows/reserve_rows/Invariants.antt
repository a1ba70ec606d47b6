use Rattle.plan_reader.specs.declared.plans.Plan.{Plan}
use Rattle.std.proofs.Common.{drop}
use Rattle.lane_session.specs.Lanes.{ArePassed, AllServed}
use Rattle.lane_session.specs.Order.{AllInOrder}
use Rattle.lane_session.proofs.rows.reserve_rows.Given as goal

abbrev pub invariant-loop-job : goal.invariant-loop-job
invariant-loop-job g l =
    ((plan : Plan) → ArePassed g.T.DiskCalls.told g.T.DiskCalls.counts plan l.fn.jobs l.fn.sites l.fn.lanes l.sites l.lanes)
    × AllServed l.fn.jobs l.job-index l.lanes
    × AllInOrder l.fn.jobs (drop l.job-index l.fn.jobs) l.fn.lanes l.lanes
