use Rattle.senders.proofs.BenchLemmas.{merges}
use Rattle.senders.proofs.passes.unite.Goals as goal

pub absorb-requires-clause-rule : goal.absorb-requires-clause-rule
absorb-requires-clause-rule g c = merges g.P.Terms.works _ _ _ _ c.requires.pass.2
