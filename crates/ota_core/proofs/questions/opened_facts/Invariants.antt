use Rattle.std.proofs.Common.{◌≡◌, length}
use Rattle.ota_core.specs.Questions.{opened_facts}
use Rattle.ota_core.proofs.questions.opened_facts.Given as goal

abbrev pub invariant-loop-entry : goal.invariant-loop-entry
invariant-loop-entry l = opened_facts l.keyset l.entries ≡ opened_facts l.keyset l.rest

abbrev pub decreases-loop-entry : goal.decreases-loop-entry
decreases-loop-entry l = length l.rest
