use Rattle.std.proofs.Common.{◌≡◌, drop}
use Rattle.ota_core.specs.History.{first_some}
use Rattle.lane_session.specs.Differences.{histories_of, later_otherwise}
use Rattle.lane_session.proofs.differences.later_difference.Given as goal

abbrev pub invariant-loop-keyset : goal.invariant-loop-keyset
invariant-loop-keyset l =
    first_some (later_otherwise (histories_of l.lanes)) l.later ≡ first_some (later_otherwise (histories_of l.lanes)) (drop l.keyset-index l.later)
