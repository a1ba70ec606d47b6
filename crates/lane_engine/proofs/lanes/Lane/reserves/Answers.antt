use Rattle.std.proofs.Common.{reverse}
use Rattle.lane_engine.specs.Adding.{moment_for}
use Rattle.lane_engine.proofs.ReservingLemmas.{next_below, reserves_step}
use Rattle.lane_engine.proofs.lanes.Lane.reserves.Goals as goal

pub reserve_of-requires-clause-last : goal.reserve_of-requires-clause-last
reserve_of-requires-clause-last g c =
    next_below c.args.by (moment_for c.args.self.now) c.args.self.now.name (reverse c.args.self.now.journal.entries) c.args.jobs.now c.loop-count.count c.index-jobs-count.result
    c.requires.free c.loop-count-test.true c.index-jobs-count.is

pub loop-count-preserved : goal.loop-count-preserved
loop-count-preserved g c =
    reserves_step c.args.by (moment_for c.args.self.now) c.args.self.now.name (reverse c.args.self.now.journal.entries) c.args.jobs.now c.loop-count.count c.index-jobs-count.result
    c.loop-count.batch.items c.push.new.self.items c.in_ok-reserve_of.field-0 c.loop-count-test.true c.index-jobs-count.is c.loop-count.invariant c.in_ok-reserve_of.ensures
    c.in_ok-push.ensures.items
