use Rattle.std.proofs.Common.{◌≡◌, not}
use Rattle.std.specs.FinMap as map
use Rattle.card_files.specs.Commands as command
use Rattle.card_files.proofs.tree.Tree.remove.Given as goal

-- What went so far is below the path.
abbrev pub invariant-loop-within : goal.invariant-loop-within
invariant-loop-within l = map.retain_keys l.self (λ other. not (command.is_within l.path other)) ≡ map.retain_keys l.fn.self (λ other. not (command.is_within l.path other))

abbrev pub decreases-loop-within : goal.decreases-loop-within
decreases-loop-within l = map.len l.self
