use Rattle.std.proofs.Common.{◌≡◌, map, take}
use Rattle.air_sim.specs.Cards.{facts_of}
use Rattle.air_sim.specs.Files.{cards_of}
use Rattle.air_sim.proofs.store_sites.lane_cards.Given as goal

abbrev pub invariant-loop-facts : goal.invariant-loop-facts
invariant-loop-facts g l = map facts_of l.found.items ≡ cards_of l.lanes l.lane (take l.facts-index l.cards)
