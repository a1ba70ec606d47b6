use Rattle.std.proofs.Common.{◌≡◌, map, take}
use Rattle.plan_reader.specs.PlanTable.{with_issued, later_of}
use Rattle.plan_reader.proofs.plan_documents.make_plan.Given as goal

abbrev pub invariant-loop-listing : goal.invariant-loop-listing
invariant-loop-listing l =
    let done = take l.listing-index l.listing-items in
    (l.cards ≡ map (with_issued done) l.fn.cards) × (l.later ≡ later_of done)
