use Rattle.std.proofs.Common.{◌∙◌, ap}
use Rattle.std.specs.Prelude.{map}
use Rattle.air_sim.specs.Cards.{facts_in, facts_of}
use Rattle.air_sim.specs.SiteCards.{CardsValue}
use Rattle.air_sim.specs.ToldLaws.{at_now}
use Rattle.air_sim.proofs.FindLemmas.{all_reached}
use Rattle.air_sim.proofs.sim_site.SimSite.new.Goals as goal

pub returns-clause-facts : goal.returns-clause-facts
returns-clause-facts g c = ap (λ m. facts_in m.0.cards.items) (at_now c.new-4.result.items _) ∙ ap (λ (cards : CardsValue _). facts_in cards.items) c.new.ensures ∙ all_reached (map facts_of c.args.cards.items) c.requires.distinct
