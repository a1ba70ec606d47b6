use Rattle.std.proofs.Common.{sym, subst}
use Rattle.world_core.specs.WorldState.{WorldState}
use Rattle.world_core.specs.Sound.{IsSound}
use Rattle.world_core.proofs.HeadlineLemmas.{issued_sound}
use Rattle.world_core.proofs.worlds.World.new.Goals as goal

pub invariant_of-result : goal.invariant_of-result
invariant_of-result c = subst (λ (w : WorldState). IsSound w) (sym c.in_ok-parts.ensures) (issued_sound c.args.cards.items c.requires)
