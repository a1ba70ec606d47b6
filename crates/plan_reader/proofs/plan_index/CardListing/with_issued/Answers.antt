use Rattle.plan_reader.proofs.PlanIndexLemmas.{kvn-range}
use Rattle.plan_reader.proofs.plan_index.CardListing.with_issued.Goals as goal

pub with_keyset-listing-requires : goal.with_keyset-listing-requires
with_keyset-listing-requires c =
    let is = c.as_slice-kvn-items.ensures in
    rw c.loop-kvn-item.is
    (kvn-range c.as_slice-kvn-items.result.now c.loop-kvn.kvn-index c.loop-kvn-item.result (rw (← is.keysets) at is.distinct) c.loop-kvn-test.true).1
