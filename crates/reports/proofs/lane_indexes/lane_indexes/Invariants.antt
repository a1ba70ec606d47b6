use Rattle.std.proofs.Common.{◌≡◌, take, map}
use Rattle.reports.specs.Report.{entries_in}
use Rattle.reports.proofs.lane_indexes.lane_indexes.Given as goal

abbrev pub invariant-loop-history : goal.invariant-loop-history
invariant-loop-history l = l.lanes.items ≡ map entries_in (take l.history-index l.histories)
