use Rattle.std.proofs.Common.{◌≡◌, subst, sym, true}
use Rattle.air_sim.specs.Cards.{are_distinct}
use Rattle.air_sim.proofs.FileLemmas.{distinct_here}
use Rattle.air_sim.proofs.store_sites.file_site.Goals as goal

pub new-requires : goal.new-requires
new-requires g c = record { distinct = subst (λ facts. are_distinct facts ≡ true) (sym c.in_ok-cards-in-Ok.ensures.cards) (distinct_here c.args.lanes c.args.lane c.args.cards.now c.requires.distinct) }
