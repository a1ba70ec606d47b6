use Rattle.std.proofs.Common.{◌≡◌, reverse, take}
use Rattle.lane_engine.specs.Adding.{moment_for}
use Rattle.lane_engine.specs.Reserving.{reserves_of}
use Rattle.lane_engine.proofs.lanes.Lane.reserves.Given as goal

abbrev pub invariant-loop-count : goal.invariant-loop-count
invariant-loop-count g l =
    l.batch.items ≡ reserves_of l.by (moment_for l.self) l.self.name (reverse l.self.journal.entries) (take l.count l.jobs)
