use Rattle.std.proofs.Common.{◌≡◌, ◌+◌, ◌*◌, ◌≤◌, ◌++◌, length}
use Rattle.card_files.specs.Path.{ids_of}
use Rattle.card_files.proofs.path.Path.read.Given as goal

-- The identifiers so far, and those of the rest.
abbrev pub invariant-loop-rest : goal.invariant-loop-rest
invariant-loop-rest l =
    (l.ids.items ++ ids_of l.rest ≡ ids_of l.octets)
    × (2 * length l.ids.items + length l.rest ≤ 8)

abbrev pub decreases-loop-rest : goal.decreases-loop-rest
decreases-loop-rest l = length l.rest
