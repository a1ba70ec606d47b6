use Rattle.ota_commands.proofs.EndLaws.{EndsBelow}
use Rattle.ota_commands.proofs.ends.set_ends.Given as goal

abbrev pub invariant-loop-number : goal.invariant-loop-number
invariant-loop-number l = EndsBelow l.fn.lanes l.ends l.number
