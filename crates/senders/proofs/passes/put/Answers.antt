use Rattle.std.proofs.Common.{arith}
use Rattle.senders.proofs.BenchLemmas.{puts, learns, not_full}
use Rattle.senders.proofs.passes.put.Goals as goal

pub push_as-requires-clause-rule : goal.push_as-requires-clause-rule
push_as-requires-clause-rule g c = (let all = c.requires.pass.1 in puts g.P.Terms.works _ _ _ _ (omega (arith, all)) c.requires.piece, learns g.P.Terms.works _ _)

pub unreachable-requires : goal.unreachable-requires
unreachable-requires g c = not_full _ _ c.requires.pass.1 c.requires.pass.2 c.requires.room c.in-Err.ensures.rule.2
