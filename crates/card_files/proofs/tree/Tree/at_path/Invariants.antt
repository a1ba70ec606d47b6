use Rattle.std.proofs.Common.{◌≡◌, [], length}
use Rattle.card_files.specs.Path.{ids_of}
use Rattle.card_files.specs.Commands.{at_path}
use Rattle.card_files.proofs.tree.Tree.at_path.Given as goal

-- The rest of the path goes on from here.
abbrev pub invariant-loop-rest : goal.invariant-loop-rest
invariant-loop-rest l = at_path l.self l.path (ids_of l.rest) ≡ at_path l.self [] (ids_of l.octets)

abbrev pub decreases-loop-rest : goal.decreases-loop-rest
decreases-loop-rest l = length l.rest
