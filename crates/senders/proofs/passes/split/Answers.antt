use Rattle.senders.proofs.BenchLemmas.{forks}
use Rattle.senders.proofs.passes.split.Goals as goal

pub another-requires-clause-rule : goal.another-requires-clause-rule
another-requires-clause-rule g c = forks g.P.Terms.works _ _ c.requires.pass.1
