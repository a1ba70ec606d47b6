use Rattle.std.proofs.Common.{◌≡◌, reverse, length}
use Rattle.ota_core.specs.History.{last_reservation}
use Rattle.ota_core.proofs.questions.last_reservation.Given as goal

abbrev pub invariant-loop-entry : goal.invariant-loop-entry
invariant-loop-entry l = last_reservation l.job (reverse l.entries) ≡ last_reservation l.job (reverse l.rest)

abbrev pub decreases-loop-entry : goal.decreases-loop-entry
decreases-loop-entry l = length l.rest
