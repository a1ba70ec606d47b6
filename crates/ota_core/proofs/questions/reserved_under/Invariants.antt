use Rattle.std.proofs.Common.{◌≡◌, reverse, length}
use Rattle.ota_core.specs.Questions.{reserved_under}
use Rattle.ota_core.proofs.questions.reserved_under.Given as goal

abbrev pub invariant-loop-entry : goal.invariant-loop-entry
invariant-loop-entry l = reserved_under l.place (reverse l.entries) ≡ reserved_under l.place (reverse l.rest)

abbrev pub decreases-loop-entry : goal.decreases-loop-entry
decreases-loop-entry l = length l.rest
