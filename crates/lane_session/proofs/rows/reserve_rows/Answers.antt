use Rattle.std.proofs.Common.{◌≡◌, ◌<◌, ◌%◌, ℕ, ◌+◌, List, [], drop, length, get_or, sym, ap, subst, ◌∙◌, arith}
use Rattle.std.proofs.Math.ListN.{drop_of_length-le}
use Rattle.ota_core.specs.declared.jobs.Job.{Job}
use Rattle.plan_reader.specs.declared.plans.Plan.{Plan}
use Rattle.lane_session.specs.Order.{AllInOrder}
use Rattle.lane_session.specs.Rows.{Among}
use Rattle.lane_session.specs.Run.{IsLaneReady}
use Rattle.lane_session.proofs.LaneLaws.{passed_start, passed_ready, passed_set, served_set}
use Rattle.lane_session.proofs.OrderLaws.{left_is, order_start, order_set}
use Rattle.lane_session.proofs.rows.reserve_rows.Goals as goal

pub loop-job-init : goal.loop-job-init
loop-job-init g c = (
  λ plan. passed_start g.T.DiskCalls.told g.T.DiskCalls.counts plan c.args.jobs.now c.args.sites.now c.args.lanes.now c.requires.ready,
  λ k lane below goes_on i job none. absurd (omega arith),
  order_start c.args.jobs.now c.args.lanes.now,
)

abbrev no_plan : Plan
no_plan = record { campaign = 0; cards = []; later = [] }

-- the lane of the row is there
lane-within : (g : _) (c : goal.After-index-sites-lane g) → c.lane_of-lane.result < length c.args.lanes.now
lane-within g c = omega (arith, c.lane_of-lane.ensures.within, (c.loop-job.invariant.0 no_plan).same_lanes)

-- and ready
lane-ready : (g : _) (c : goal.After-index-sites-lane g)
    → IsLaneReady g.T.DiskCalls.told g.T.DiskCalls.counts c.lane_of-lane.result (length c.args.lanes.now)
    (get_or c.loop-job.sites c.lane_of-lane.result c.index-sites-lane.result) (get_or c.loop-job.lanes c.lane_of-lane.result c.index-lanes-lane.result)
lane-ready g c =
    let site = c.index-sites-lane.result in
    let lane = c.index-lanes-lane.result in
    let k = c.lane_of-lane.result in
    passed_ready g.T.DiskCalls.told g.T.DiskCalls.counts no_plan c.args.jobs.now k (length c.args.lanes.now) (get_or c.args.sites.now k site) (get_or c.loop-job.sites k site) (get_or c.args.lanes.now k lane) (get_or c.loop-job.lanes k lane)
    (c.requires.ready.each k site lane (lane-within g c)) ((c.loop-job.invariant.0 no_plan).each k site site lane lane (lane-within g c))

-- the lane of the row is that of its card
lane-of : (g : _) (c : goal.After-index-sites-lane g) → c.job-item.result.keyset.card.0 % length c.args.lanes.now ≡ c.lane_of-lane.result
lane-of g c = ap (λ (n : ℕ). c.job-item.result.keyset.card.0 % n) (sym (c.loop-job.invariant.0 no_plan).same_lanes) ∙ sym c.lane_of-lane.ensures.lane

pub reserve-requires-clause-of_lane : goal.reserve-requires-clause-of_lane
reserve-requires-clause-of_lane g c =
    ap (λ (n : ℕ). c.job-item.result.keyset.card.0 % n) (lane-ready g c).lanes_are ∙ lane-of g c ∙ sym (lane-ready g c).lane_is

pub reserve-requires-clause-ready : goal.reserve-requires-clause-ready
reserve-requires-clause-ready g c = (lane-ready g c).ready

pub loop-job-preserved : goal.loop-job-preserved
loop-job-preserved g c =
    let k = c.lane_of-lane.result in
    let among : Among c.job-item.result c.args.jobs.now = (c.loop-job.job-index, c.loop-job-test.true, sym c.job-item.is) in (
      λ plan. passed_set g.T.DiskCalls.told g.T.DiskCalls.counts plan c.args.jobs.now c.args.sites.now c.loop-job.sites c.args.lanes.now c.loop-job.lanes k c.reserve.new.site c.reserve.new.self c.job-item.result
          c.index-sites-lane.result c.index-lanes-lane.result (omega (arith, c.lane_of-lane.ensures.within, (c.loop-job.invariant.0 plan).same_lanes)) c.requires.ready.each_site among
          (ap (λ (n : ℕ). c.job-item.result.keyset.card.0 % n) (sym (c.loop-job.invariant.0 plan).same_lanes) ∙ sym c.lane_of-lane.ensures.lane) (c.loop-job.invariant.0 plan) c.reserve.ensures,
      served_set g.T.DiskCalls.told g.T.DiskCalls.counts c.args.jobs.now c.loop-job.lanes (get_or c.loop-job.sites k c.index-sites-lane.result) c.reserve.new.site k c.loop-job.job-index c.reserve.new.self c.job-item.result c.index-lanes-lane.result
          c.lane_of-lane.ensures.within c.job-item.is c.loop-job-test.true (sym c.lane_of-lane.ensures.lane) c.loop-job.invariant.1 c.reserve.ensures,
      order_set g.T.DiskCalls.told g.T.DiskCalls.counts c.args.jobs.now (drop (c.loop-job.job-index + 1) c.args.jobs.now) c.args.lanes.now c.loop-job.lanes (get_or c.loop-job.sites k c.index-sites-lane.result) c.reserve.new.site k c.reserve.new.self
          c.job-item.result c.index-lanes-lane.result (c.loop-job.invariant.0 no_plan).same_lanes (ap (λ (n : ℕ). c.job-item.result.keyset.card.0 % n) (sym (c.loop-job.invariant.0 no_plan).same_lanes) ∙ sym c.lane_of-lane.ensures.lane)
          (subst (λ (left : List Job). AllInOrder c.args.jobs.now left c.args.lanes.now c.loop-job.lanes) (left_is c.args.jobs.now c.loop-job.job-index c.job-item.result c.loop-job-test.true c.job-item.is) c.loop-job.invariant.2) c.reserve.ensures,
    )

pub returns-clause-order : goal.returns-clause-order
returns-clause-order g c = subst (λ (left : List Job). AllInOrder c.args.jobs.now left c.args.lanes.now c.loop-job.lanes) (drop_of_length-le c.args.jobs.now c.loop-job-test.false) c.loop-job.invariant.2
