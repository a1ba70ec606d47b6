use Rattle.std.proofs.Common.{◌≡◌, drop}
use Rattle.lane_session.specs.Differences.{histories_of, counter_otherwise}
use Rattle.lane_session.proofs.differences.counter_otherwise.Given as goal

abbrev pub invariant-loop-lane : goal.invariant-loop-lane
invariant-loop-lane l = counter_otherwise (histories_of l.lanes) l.job ≡ counter_otherwise (histories_of (drop l.lane-index l.lanes)) l.job
