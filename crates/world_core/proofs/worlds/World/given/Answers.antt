use Rattle.std.proofs.Common.{subst}
use Rattle.world_core.specs.WorldState.{WorldState}
use Rattle.world_core.specs.Headline.{GivenWasMade}
use Rattle.world_core.proofs.worlds.World.given.Goals as goal

pub returns-clause-given_made : goal.returns-clause-given_made
returns-clause-given_made c = subst (λ (w : WorldState). GivenWasMade w) c.self.view_is (c.self.invariant.given)
