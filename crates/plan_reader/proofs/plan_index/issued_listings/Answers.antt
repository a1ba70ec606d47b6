use Rattle.std.proofs.Common.{sym, take}
use Rattle.std.proofs.lemmas.List.{take_more}
use Rattle.plan_reader.proofs.PlanIndexLemmas.{index-card, is-there, is-bare}
use Rattle.plan_reader.proofs.plan_index.issued_listings.Goals as goal
use Rattle.plan_reader.proofs.plan_index.issued_listings.Goals.{in-Some, in-None}

pub loop-card-preserved : goal.loop-card-preserved
loop-card-preserved c =
    let cards = c.as_slice-cards.result.now in
    let done = take c.loop-card.card-index cards in
    let card = c.card-item.result in
    rw (take_more cards c.loop-card.card-index card c.loop-card-test.true, ← c.card-item.is)
    (index-card c.args.plan.now done card c.loop-card.listings c.insert.new.self c.match-get.listing c.with_issued.result
    c.loop-card.invariant
    (elim c.match-get.branch [
      | in-Some w ↦ rw w.listing-is (is-there (sym w.in-Some.ensures.value))
      | in-None w ↦ rw w.listing-is (is-bare (sym w.in-None.ensures.value) w.bare-listing.ensures.wide w.bare-listing.ensures.kvns)
    ])
    c.with_issued.ensures.wide c.with_issued.ensures.kvns c.in_ok-insert.ensures.updates.0)
