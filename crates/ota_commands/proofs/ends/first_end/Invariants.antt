use Rattle.std.proofs.Common.{◌≡◌, drop}
use Rattle.ota_commands.specs.Ends.{first_end}
use Rattle.ota_commands.proofs.ends.first_end.Given as goal

abbrev pub invariant-loop-end : goal.invariant-loop-end
invariant-loop-end l = first_end (drop l.end-index l.fn.ends) ≡ first_end l.fn.ends
