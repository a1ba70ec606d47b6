use Rattle.std.proofs.Common.{◌≡◌, drop}
use Rattle.ota_core.specs.History.{first_some}
use Rattle.lane_session.specs.Differences.{histories_of, keyset_otherwise}
use Rattle.lane_session.proofs.differences.keyset_of_card.Given as goal

abbrev pub invariant-loop-kvn : goal.invariant-loop-kvn
invariant-loop-kvn l =
    first_some (keyset_otherwise (histories_of l.lanes) l.card) l.kvn-items ≡ first_some (keyset_otherwise (histories_of l.lanes) l.card) (drop l.kvn-index l.kvn-items)
