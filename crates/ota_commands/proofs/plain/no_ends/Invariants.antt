use Rattle.std.proofs.Common.{◌≡◌, None, replicate}
use Rattle.ota_commands.proofs.plain.no_ends.Given as goal

abbrev pub invariant-loop-site : goal.invariant-loop-site
invariant-loop-site l = l.ends.items ≡ replicate l._site None
