use Rattle.std.proofs.Common.{◌≡◌, ◌∙◌, ap, sym, subst, List, map, arith, take}
use Rattle.std.proofs.lemmas.List.{take_more, take_all}
use Rattle.plan_reader.proofs.PlanTableLemmas.{not-before, not-issued, all-more-issued, no-more-later, all-same-issued, more-later}
use Rattle.plan_reader.specs.PlanTable.{with_issued, later_of, plan_of_lists}
use Rattle.plan_reader.specs.LaterKeysets.{AreLater}
use Rattle.plan_reader.specs.declared.keyset_table.Listing.{Listing}
use Rattle.plan_reader.specs.declared.plans.Plan.{Plan}
use Rattle.plan_reader.proofs.LaterLemmas.{are-later}
use Rattle.plan_reader.proofs.plan_documents.make_plan.Goals as goal
use Rattle.plan_reader.proofs.plan_documents.make_plan.Goals.{then-listing+in_ok-push, else-listing+in_ok-cards}

pub with_keyset-requires : goal.with_keyset-requires
with_keyset-requires c =
    let listings = c.as_slice-listing-items.result.now in
    let i = c.loop-listing.listing-index in
    let own = rw (← c.as_slice-listing-items.ensures.keysets) at c.as_slice-listing-items.ensures.distinct in
    let apart = not-before listings i c.listing-item.result own c.loop-listing-test.true in
    record {
      new = rw c.loop-listing.invariant.0 (not-issued c.listing-item.result.id (take i listings) c.args.cards (rw (← c.listing-item.is) at apart));
    }

pub loop-listing-preserved : goal.loop-listing-preserved
loop-listing-preserved c =
    let listings = c.as_slice-listing-items.result.now in
    let i = c.loop-listing.listing-index in
    let done = take i listings in
    let listing = c.listing-item.result in
    let (cards, later) = c.loop-listing.invariant in
    rw (take_more listings i listing c.loop-listing-test.true, ← c.listing-item.is)
    (elim c.if-listing.branch [
      | then-listing+in_ok-push w ↦ (
        rw (w.cards-is, cards) (all-same-issued done listing c.args.cards w.if-listing.true),
        rw (w.later-is, w.in_ok-push.ensures.ok, later) (more-later done listing w.if-listing.true),
      )
      | else-listing+in_ok-cards w ↦ (
        rw (w.cards-is, w.in_ok-cards.ensures, cards) (all-more-issued done listing c.args.cards w.if-listing.false),
        rw (w.later-is, later) (no-more-later done listing w.if-listing.false),
      )
    ])

pub returns-clause-later : goal.returns-clause-later
returns-clause-later c =
    let all = take_all c.loop-listing.listing-index c.as_slice-listing-items.result.now (omega (arith, c.loop-listing-test.false)) ∙ c.as_slice-listing-items.ensures.keysets in
    let cards : c.into_cards.result ≡ map (with_issued c.args.keysets.now) c.args.cards =
    c.into_cards.ensures.cards ∙ c.loop-listing.invariant.0 ∙ ap (λ (l : List Listing). map (with_issued l) c.args.cards) all in
    let later : c.loop-listing.later ≡ later_of c.args.keysets.now = c.loop-listing.invariant.1 ∙ ap later_of all in
    let given : Plan = record { campaign = c.args.campaign; cards = c.into_cards.result; later = c.loop-listing.later } in
    let plan : given ≡ (plan_of_lists c.args.campaign c.args.cards c.args.keysets.now) =
    λ i. record { campaign = c.args.campaign; cards = cards i; later = later i } in
    subst (λ (p : Plan). AreLater p p.later) (sym plan)
    (are-later c.args.campaign c.args.cards c.args.keysets.now c.requires.right c.as_slice-listing-items.ensures.distinct)
