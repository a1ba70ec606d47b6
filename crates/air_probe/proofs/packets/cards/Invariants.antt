use Rattle.std.proofs.Common.{◌≡◌, true, map}
use Rattle.air_sim.specs.Cards.{are_distinct, facts_of}
use Rattle.air_probe.proofs.CardLemmas.{AreWithin}
use Rattle.air_probe.proofs.packets.cards.Given as goal

abbrev pub invariant-loop-before : goal.invariant-loop-before
invariant-loop-before l = AreWithin l.before l.cards.items × (are_distinct (map facts_of l.cards.items) ≡ true)
