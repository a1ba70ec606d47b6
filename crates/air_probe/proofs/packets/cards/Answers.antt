use Rattle.std.proofs.Common.{◌≡◌, ◌+◌, ◌++◌, ◌∷◌, [], true, map, arith, rules, subst, sym}
use Rattle.air_sim.specs.Cards.{are_distinct, facts_of, number_of}
use Rattle.air_probe.proofs.CardLemmas.{AreWithin, distinct_more, within_more}
use Rattle.air_probe.proofs.packets.cards.Goals as goal

pub loop-before-preserved : goal.loop-before-preserved
loop-before-preserved c =
    let last = c.loop-before.before in
    let found = c.loop-before.cards.items in
    let card = c.in_ok-card.card in
    let more : c.push.new.self.items ≡ found ++ card ∷ [] = search (rules, c.in_ok-push.ensures) in
    let is : number_of card ≡ last + 1 = omega (arith, c.in_ok-card.ensures, c.from.ensures) in
    subst (λ items. AreWithin (last + 1) items × (are_distinct (map facts_of items) ≡ true)) (sym more)
    (within_more last found card c.loop-before.invariant.0 is, distinct_more last found card c.loop-before.invariant.0 is c.loop-before.invariant.1)
