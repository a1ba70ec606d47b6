use Rattle.std.proofs.Common.{drop}
use Rattle.lane_session.specs.Order.{IsOpenedInOrder}
use Rattle.lane_session.proofs.OpenLaws.{IsOpening}
use Rattle.lane_session.proofs.lanes.Lane.open_keysets.Given as goal

abbrev pub invariant-loop-job : goal.invariant-loop-job
invariant-loop-job g l =
    IsOpening g.T.DiskCalls.told g.T.DiskCalls.counts l.fn.plan l.fn.jobs l.fn.number l.fn.lanes l.fn.site l.fn.self l.site l.self l.waiting.items l.job-index
    × IsOpenedInOrder l.fn.plan l.fn.number l.fn.lanes l.fn.jobs (drop l.job-index l.fn.jobs) l.fn.self l.self l.waiting.items
