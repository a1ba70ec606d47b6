use Rattle.receiving_entity.specs.Receiving.{reaction_to}
use Rattle.receiving_entity.specs.Verdict.{verdict}
use Rattle.receiving_entity.proofs.CardLemmas.{stays}
use Rattle.receiving_entity.proofs.taking.react.Goals as goal

pub returns-in-Err-clause-moments : goal.returns-in-Err-clause-moments
returns-in-Err-clause-moments g c = λ tells content stands.
    stays g.D.DiskCalls.told c.args.store.now content stands c.requires.ready tells (reaction_to (verdict c.args.store.now.facts content c.args.packet.now))
