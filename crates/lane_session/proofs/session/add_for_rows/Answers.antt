use Rattle.std.proofs.Common.{arith}
use Rattle.lane_session.proofs.LaneLaws.{first_of, all_joined, all_ready}
use Rattle.lane_session.proofs.FrontLaws.{fronts}
use Rattle.lane_session.proofs.OpenLaws.{all_opened}
use Rattle.lane_session.proofs.session.add_for_rows.Goals as goal

pub reserve_rows-requires-clause-ready : goal.reserve_rows-requires-clause-ready
reserve_rows-requires-clause-ready g c =
    all_ready g.T.DiskCalls.told g.T.DiskCalls.counts c.args.plan.now c.args.jobs.now c.args.sites.now c.open_rows.new.sites c.open_rows.new.sites c.args.lanes.now c.open_rows.new.lanes c.open_rows.new.lanes c.requires.ready c.open_rows.ensures.passed

pub returns-clause-adds : goal.returns-clause-adds
returns-clause-adds g c =
    all_joined g.T.DiskCalls.told g.T.DiskCalls.counts c.args.plan.now c.args.jobs.now c.args.sites.now c.open_rows.new.sites c.reserve_rows.new.sites c.args.lanes.now c.open_rows.new.lanes c.reserve_rows.new.lanes
    c.requires.ready.each_site c.open_rows.ensures.passed (c.reserve_rows.ensures.passed c.args.plan.now)

pub returns-clause-opened : goal.returns-clause-opened
returns-clause-opened g c = λ k lane below goes_on i job first within of.
    all_opened g.T.DiskCalls.told g.T.DiskCalls.counts c.args.plan.now c.args.jobs.now c.open_rows.new.sites c.reserve_rows.new.sites c.open_rows.new.lanes c.reserve_rows.new.lanes (c.reserve_rows.ensures.passed c.args.plan.now)
    (λ m l in_lanes. c.open_rows.ensures.opened m l in_lanes) (first_of c.args.sites.now (omega (arith, c.requires.ready.some, c.requires.ready.each_site))) k lane below goes_on i job first within of

pub returns-clause-order : goal.returns-clause-order
returns-clause-order g c =
    fronts g.T.DiskCalls.told g.T.DiskCalls.counts c.args.plan.now c.args.jobs.now c.open_rows.new.sites c.reserve_rows.new.sites c.args.lanes.now c.open_rows.new.lanes c.reserve_rows.new.lanes
    c.open_rows.ensures.passed.same_lanes (first_of c.args.sites.now (omega (arith, c.requires.ready.some, c.requires.ready.each_site))) c.open_rows.ensures.order c.reserve_rows.ensures.order (c.reserve_rows.ensures.passed c.args.plan.now)
