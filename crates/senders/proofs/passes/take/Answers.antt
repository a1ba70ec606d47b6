use Rattle.senders.proofs.BenchLemmas.{takes, learns, knows_all, none_of}
use Rattle.senders.proofs.passes.take.Goals as goal

pub pop_as-requires-clause-rule : goal.pop_as-requires-clause-rule
pop_as-requires-clause-rule g c = (takes g.P.Terms.works _ _ c.requires.pass.1, learns g.P.Terms.works _ _)

pub returns-clause-none : goal.returns-clause-none
returns-clause-none g c = none_of _ c.pop_as.result (λ h. (h.0, knows_all _ h.1)) c.pop_as.ensures.rule
