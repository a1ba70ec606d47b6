use Rattle.std.proofs.Common.{[], take}
use Rattle.plan_reader.specs.PlanPlaces.{IsIndexOf}
use Rattle.plan_reader.proofs.plan_index.issued_listings.Given as goal

abbrev pub invariant-loop-card : goal.invariant-loop-card
invariant-loop-card l = IsIndexOf (record l.plan { cards = take l.card-index l.cards; later = [] }) l.listings
