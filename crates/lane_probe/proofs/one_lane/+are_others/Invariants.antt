use Rattle.std.proofs.Common.{length}
use Rattle.lane_probe.proofs.one_lane.+are_others.Given as goal

abbrev pub decreases-are_others : goal.decreases-are_others
decreases-are_others l = length l.jobs.now
