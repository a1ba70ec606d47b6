use Rattle.std.proofs.Common.{length}
use Rattle.lane_probe.proofs.one_lane.+jobs_differ.Given as goal

abbrev pub decreases-jobs_differ : goal.decreases-jobs_differ
decreases-jobs_differ l = length l.jobs.now
