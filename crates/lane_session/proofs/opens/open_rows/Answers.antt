use Rattle.std.proofs.Common.{length, get_or, arith}
use Rattle.lane_session.proofs.LaneLaws.{passed_start, passed_ready, opened_none, next_passed, next_opened}
use Rattle.lane_session.proofs.OpenOrderLaws.{order_none, next_order}
use Rattle.lane_session.proofs.opens.open_rows.Goals as goal

pub loop-number-init : goal.loop-number-init
loop-number-init g c = (
  passed_start g.T.DiskCalls.told g.T.DiskCalls.counts c.args.plan.now c.args.jobs.now c.args.sites.now c.args.lanes.now c.requires.ready,
  opened_none g.T.DiskCalls.told c.args.plan.now c.args.jobs.now c.args.sites.now c.args.lanes.now,
  order_none c.args.plan.now c.args.jobs.now c.args.lanes.now c.args.lanes.now,
)

pub open_keysets-requires-clause-ready : goal.open_keysets-requires-clause-ready
open_keysets-requires-clause-ready g c =
    let k = c.loop-number.number in
    let s = c.index-sites-number.result in
    let l = c.index-lanes-number.result in
    passed_ready g.T.DiskCalls.told g.T.DiskCalls.counts c.args.plan.now c.args.jobs.now k (length c.args.lanes.now) (get_or c.args.sites.now k s) (get_or c.loop-number.sites k s) (get_or c.args.lanes.now k l) (get_or c.loop-number.lanes k l)
    (c.requires.ready.each k s l c.loop-number-test.true) (c.loop-number.invariant.0.each k s s l l c.loop-number-test.true)

pub loop-number-preserved : goal.loop-number-preserved
loop-number-preserved g c =
    let told = g.T.DiskCalls.told in
    let counts = g.T.DiskCalls.counts in
    let k = c.loop-number.number in
    let s = c.index-sites-number.result in
    let l = c.index-lanes-number.result in
    let kept = c.loop-number.invariant in (
      next_passed told counts c.args.plan.now c.args.jobs.now c.args.sites.now c.loop-number.sites c.args.lanes.now c.loop-number.lanes k c.open_keysets.new.site c.open_keysets.new.self s l
          c.loop-number-test.true c.requires.ready.each_site kept.0 kept.1 c.open_keysets.ensures.passed c.open_keysets.ensures.opened,
      next_opened told counts c.args.plan.now c.args.jobs.now c.args.sites.now c.loop-number.sites c.args.lanes.now c.loop-number.lanes k c.open_keysets.new.site c.open_keysets.new.self s l
          c.loop-number-test.true c.requires.ready.each_site kept.0 kept.1 c.open_keysets.ensures.passed c.open_keysets.ensures.opened,
      next_order c.args.plan.now c.args.jobs.now c.args.lanes.now c.loop-number.lanes k c.open_keysets.new.self l c.loop-number-test.true kept.0.same_lanes (kept.1.same_lane k l (omega arith)) kept.2 c.open_keysets.ensures.order,
    )
