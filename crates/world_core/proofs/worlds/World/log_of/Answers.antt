use Rattle.std.proofs.Common.{subst}
use Rattle.world_core.specs.WorldState.{WorldState}
use Rattle.world_core.specs.Headline.{AtMostOnce}
use Rattle.world_core.proofs.HeadlineLemmas.{at_most_once}
use Rattle.world_core.proofs.worlds.World.log_of.Goals as goal

pub returns-clause-at_most_once : goal.returns-clause-at_most_once
returns-clause-at_most_once c = subst (λ (w : WorldState). AtMostOnce w) c.self.view_is (at_most_once c.self.inside.parts c.self.invariant)
