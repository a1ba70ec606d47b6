use Rattle.script_engine.proofs.Ends.{few-run}
use Rattle.script_engine.specs.Run.{runs}
use Rattle.apdu_codec.specs.Reply.{answered}
use Rattle.script_engine.proofs.card.CardState.run_script.Goals as goal

pub returns-in-None-clause-within : goal.returns-in-None-clause-within
returns-in-None-clause-within c = λ count has.
    few-run c.args.self.now c.args.part c.args.script.now count c.loop-next.ran.count _ c.loop-next.invariant.ran has
