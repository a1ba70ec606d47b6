use Rattle.std.proofs.Common.{◌≡◌, ◌%◌, ◌∙◌, ◌∷◌, ◌++◌, [], ap, map, rules, subst, sym}
use Rattle.std.proofs.lemmas.List.{map-append}
use Rattle.air_sim.specs.Cards.{facts_of}
use Rattle.air_sim.specs.Files.{HasRefusal}
use Rattle.air_sim.proofs.FileLemmas.{kept_more, left_more, refusal_at}
use Rattle.air_sim.proofs.SendLemmas.{handed_on}
use Rattle.air_sim.proofs.store_sites.lane_cards.Goals as goal

pub loop-facts-preserved-then-facts-from : goal.loop-facts-preserved-then-facts-from
loop-facts-preserved-then-facts-from g c =
    let item = c.facts-item.result in
    left_more c.args.lanes c.args.lane c.args.cards.now c.loop-facts.facts-index item (map facts_of c.loop-facts.found.items) c.loop-facts-test.true c.facts-item.is c.loop-facts.invariant
    (subst (λ lane. (item.card.0 % c.args.lanes ≡ lane) → ⊥) c.from-in-loop-facts.ensures (subst (λ lanes. (item.card.0 % lanes ≡ c.from-in-loop-facts.result) → ⊥) c.from.ensures c.if-facts-from.true))

pub loop-facts-preserved : goal.loop-facts-preserved
loop-facts-preserved g c =
    let item = c.facts-item.result in
    let found = c.loop-facts.found.items in
    let more : c.push.new.self.items ≡ found ++ c.in_ok-card.card ∷ [] = search (rules, c.in-Ok.ensures.items) in
    ap (map facts_of) more
    ∙ map-append facts_of found (c.in_ok-card.card ∷ [])
    ∙ ap (λ facts. map facts_of found ++ facts ∷ []) c.in_ok-card.ensures.facts
    ∙ kept_more c.args.lanes c.args.lane c.args.cards.now c.loop-facts.facts-index item (map facts_of found) c.loop-facts-test.true c.facts-item.is c.loop-facts.invariant
    (subst (λ lane. item.card.0 % c.args.lanes ≡ lane) c.from-in-loop-facts.ensures (subst (λ lanes. item.card.0 % lanes ≡ c.from-in-loop-facts.result) c.from.ensures c.if-facts-from.false))

pub returns-in_err-card-clause-refused : goal.returns-in_err-card-clause-refused
returns-in_err-card-clause-refused g c =
    let item = c.facts-item.result in
    subst (λ result. HasRefusal c.args.cards.now result) (sym (handed_on c.from_residual.result c.in_err-card.field-0.0 c.from_residual.ensures.1))
    (refusal_at c.args.cards.now c.loop-facts.facts-index item c.in_err-card.field-0.0 c.loop-facts-test.true c.facts-item.is
    (subst (λ result. HasRefusal (item ∷ []) result) c.in_err-card.was c.file_card.ensures.refused))
