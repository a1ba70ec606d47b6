use Rattle.air_sim.proofs.CardPlaceLemmas.{HasFirst}
use Rattle.std.proofs.Common.{take}
use Rattle.air_sim.proofs.site_cards.places_of.Given as goal

abbrev pub invariant-loop-place : goal.invariant-loop-place
invariant-loop-place g l = HasFirst l.places (take l.place l.cards)
