use Rattle.std.proofs.Common.{◌≡◌, reverse, length}
use Rattle.ota_core.specs.Questions.{last_reserved}
use Rattle.ota_core.proofs.questions.last_reserved.Given as goal

abbrev pub invariant-loop-entry : goal.invariant-loop-entry
invariant-loop-entry l = last_reserved l.job (reverse l.entries) ≡ last_reserved l.job (reverse l.rest)

abbrev pub decreases-loop-entry : goal.decreases-loop-entry
decreases-loop-entry l = length l.rest
