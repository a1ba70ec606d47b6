use Rattle.std.proofs.Common.{◌≡◌, ◌∙◌, ◌+◌, ap, arith, subst, sym, take}
use Rattle.std.proofs.lemmas.List.{take_all}
use Rattle.air_sim.proofs.CardPlaceLemmas.{HasFirst, first_more, first_places, first_still}
use Rattle.air_sim.proofs.site_cards.places_of.Goals as goal
use Rattle.air_sim.proofs.site_cards.places_of.Goals.{then-not-contains_key+in_ok-insert, else-not-contains_key}

pub loop-place-preserved : goal.loop-place-preserved
loop-place-preserved g c =
    let cards = c.args.cards.now in
    let places = c.loop-place.places in
    let place = c.loop-place.place in
    let card = c.index-cards-place.result in
    let number = c.facts.result.now.card.0 in
    elim c.if-not-contains_key.branch [
      | then-not-contains_key+in_ok-insert w ↦
          subst (λ all. HasFirst all (take (place + 1) cards)) (sym w.places-is)
          (first_more places cards place card c.loop-place-test.true c.index-cards-place.is number (ap (λ facts. facts.card.0) c.facts.ensures) c.loop-place.invariant w.insert.new.self (sym c.contains_key.ensures ∙ w.if-not-contains_key.true) w.in_ok-insert.ensures.updates)
      | else-not-contains_key w ↦
          subst (λ all. HasFirst all (take (place + 1) cards)) (sym w.places-is)
          (first_still places cards place card c.loop-place-test.true c.index-cards-place.is number (ap (λ facts. facts.card.0) c.facts.ensures) c.loop-place.invariant (sym c.contains_key.ensures ∙ w.if-not-contains_key.false))
    ]

pub returns : goal.returns
returns g c = first_places c.loop-place.places c.args.cards.now (subst (λ cards. HasFirst c.loop-place.places cards) (take_all c.loop-place.place c.args.cards.now (omega (arith, c.loop-place-test.false))) c.loop-place.invariant)
