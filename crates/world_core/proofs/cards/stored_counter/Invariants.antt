use Rattle.std.proofs.Common.{◌≡◌, length}
use Rattle.world_core.specs.Card.{stored_counter}
use Rattle.world_core.proofs.cards.stored_counter.Given as goal

abbrev pub invariant-loop-line : goal.invariant-loop-line
invariant-loop-line l = stored_counter l.base l.keyset l.log ≡ stored_counter l.base l.keyset l.rest

abbrev pub decreases-loop-line : goal.decreases-loop-line
decreases-loop-line l = length l.rest
