use Rattle.std.proofs.Common.{subst}
use Rattle.world_core.specs.WorldState.{WorldState}
use Rattle.ota_core.specs.History.{IsLegal}
use Rattle.world_core.proofs.SoundLemmas.{legal_history}
use Rattle.world_core.proofs.worlds.World.history.Goals as goal

pub returns-clause-legal : goal.returns-clause-legal
returns-clause-legal c = subst (λ (w : WorldState). IsLegal w.history) c.self.view_is (legal_history c.self.inside.parts c.self.invariant)
