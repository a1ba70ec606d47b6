use Rattle.std.specs.BTreeMap.{get}
use Rattle.reports.specs.Places.{counter_cmp}
use Rattle.reports.proofs.PlaceLemmas.{settlement_more}
use Rattle.reports.proofs.lane_indexes.settlements_in.Goals as goal

pub loop-place-preserved : goal.loop-place-preserved
loop-place-preserved c = λ counter.
    settlement_more c.args.entries.now c.loop-place.place c.index-entries-place.result c.loop-place-test.true c.index-entries-place.is counter
    (get counter_cmp c.loop-place.places counter) (get counter_cmp c.put_settlement.new.places counter) (c.loop-place.invariant counter) (c.in_ok-put_settlement.ensures counter)
