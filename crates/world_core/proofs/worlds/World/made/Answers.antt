use Rattle.std.proofs.Common.{subst}
use Rattle.world_core.specs.WorldState.{WorldState}
use Rattle.world_core.specs.Headline.{AnswersAreTrue, AnswersAreOwn}
use Rattle.world_core.proofs.worlds.World.made.Goals as goal

pub returns-clause-answers_true : goal.returns-clause-answers_true
returns-clause-answers_true c = subst (λ (w : WorldState). AnswersAreTrue w) c.self.view_is (c.self.invariant.answers)

pub returns-clause-answers_own : goal.returns-clause-answers_own
returns-clause-answers_own c = subst (λ (w : WorldState). AnswersAreOwn w) c.self.view_is (c.self.invariant.own)
