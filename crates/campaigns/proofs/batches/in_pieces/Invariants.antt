use Rattle.campaigns.specs.Batching.{IsPlaced}
use Rattle.campaigns.proofs.batches.in_pieces.Given as goal

abbrev pub invariant-loop-job : goal.invariant-loop-job
invariant-loop-job l = IsPlaced l.lanes l.size l.yielded l.works.items l.ends.items
