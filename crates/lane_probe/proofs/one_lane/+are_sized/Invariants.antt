use Rattle.std.proofs.Common.{length}
use Rattle.lane_probe.proofs.one_lane.+are_sized.Given as goal

abbrev pub decreases-are_sized : goal.decreases-are_sized
decreases-are_sized l = length l.jobs.now
