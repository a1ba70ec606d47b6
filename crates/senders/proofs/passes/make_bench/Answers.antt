use Rattle.senders.proofs.BenchLemmas.{begins}
use Rattle.senders.proofs.passes.make_bench.Goals as goal

pub ruled-requires-clause-rule : goal.ruled-requires-clause-rule
ruled-requires-clause-rule g c = begins g.P.Terms.works
