use Rattle.std.proofs.Common.{reverse}
use Rattle.lane_engine.specs.Adding.{moment_for}
use Rattle.lane_engine.proofs.KeysetLemmas.{opens_step}
use Rattle.lane_engine.proofs.lanes.Lane.lacking.Goals as goal

-- src/keysets.rt:71:9
pub loop-keyset-preserved : goal.loop-keyset-preserved
loop-keyset-preserved g c =
    opens_step c.args.by (moment_for c.args.self.now) (reverse c.args.self.now.journal.entries) c.args.keysets.now c.loop-keyset.keyset-index c.loop-keyset-item.result c.loop-keyset.opens.items
    c.put_open.new.opens.items c.loop-keyset-test.true c.loop-keyset-item.is c.loop-keyset.invariant c.in_ok-put_open.ensures
