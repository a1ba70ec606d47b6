use Rattle.std.proofs.Common.{◌≡◌}
use Rattle.world_core.specs.Condition.{has_places}
use Rattle.world_core.proofs.segments.has_places.Given as goal

abbrev pub invariant-loop-place : goal.invariant-loop-place
invariant-loop-place l = has_places l.sent l.pieces l.last ≡ has_places l.sent l.pieces l.place

abbrev pub decreases-loop-place : goal.decreases-loop-place
decreases-loop-place l = l.place
