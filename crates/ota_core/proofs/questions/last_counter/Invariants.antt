use Rattle.std.proofs.Common.{◌≡◌, reverse, length}
use Rattle.ota_core.specs.Entry.{counter_in}
use Rattle.ota_core.specs.History.{first_some}
use Rattle.ota_core.proofs.questions.last_counter.Given as goal

abbrev pub invariant-loop-entry : goal.invariant-loop-entry
invariant-loop-entry l = first_some (counter_in l.keyset) (reverse l.entries) ≡ first_some (counter_in l.keyset) (reverse l.rest)

abbrev pub decreases-loop-entry : goal.decreases-loop-entry
decreases-loop-entry l = length l.rest
