use Rattle.std.proofs.Common.{subst}
use Rattle.world_core.specs.WorldState.{WorldState}
use Rattle.world_core.specs.Headline.{OneCounter}
use Rattle.world_core.proofs.HeadlineLemmas.{one_counter}
use Rattle.world_core.proofs.worlds.World.sent.Goals as goal

pub returns-clause-one_counter : goal.returns-clause-one_counter
returns-clause-one_counter c = subst (λ (w : WorldState). OneCounter w) c.self.view_is (one_counter c.self.inside.parts c.self.invariant)
