use Rattle.std.proofs.Common.{◌≡◌, drop}
use Rattle.ota_core.specs.History.{first_some}
use Rattle.lane_session.specs.Differences.{histories_of, keyset_of_card}
use Rattle.lane_session.proofs.differences.issued_difference.Given as goal

abbrev pub invariant-loop-card : goal.invariant-loop-card
invariant-loop-card l =
    first_some (keyset_of_card (histories_of l.lanes)) l.cards ≡ first_some (keyset_of_card (histories_of l.lanes)) (drop l.card-index l.cards)
