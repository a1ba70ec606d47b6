use Rattle.std.proofs.Common.{List, ◌+◌, drop, sym, subst, arith, ◌∙◌}
use Rattle.std.proofs.Math.ListN.{drop_of_length-le}
use Rattle.ota_core.specs.declared.entries.Entry.{Entry}
use Rattle.ota_core.specs.declared.jobs.Job.{Job}
use Rattle.lane_session.specs.Order.{IsOpenedInOrder}
use Rattle.lane_session.proofs.OpenLaws.{IsOpening, opening_start, opening_other, opening_row, opening_done}
use Rattle.lane_session.proofs.OrderLaws.{left_is}
use Rattle.lane_session.proofs.OpenOrderLaws.{open_order_start, open_order_row, open_order_other, open_order_done}
use Rattle.lane_session.proofs.lanes.Lane.open_keysets.Goals.{then-lane_of-number, else-lane_of-number}
use Rattle.lane_session.proofs.lanes.Lane.open_keysets.Goals as goal

pub loop-job-init : goal.loop-job-init
loop-job-init g c = (
  subst (λ (w : List Entry). IsOpening g.T.DiskCalls.told g.T.DiskCalls.counts c.args.plan.now c.args.jobs.now c.args.number c.args.lanes c.args.site.now c.args.self.now c.args.site.now c.args.self.now w 0) (sym c.new-waiting.ensures.items)
      (opening_start g.T.DiskCalls.told g.T.DiskCalls.counts c.args.plan.now c.args.jobs.now c.args.number c.args.lanes c.args.site.now c.args.self.now c.requires.ready),
  subst (IsOpenedInOrder c.args.plan.now c.args.number c.args.lanes c.args.jobs.now c.args.jobs.now c.args.self.now c.args.self.now) (sym c.new-waiting.ensures.items)
      (open_order_start g.T.DiskCalls.told g.T.DiskCalls.counts c.args.plan.now c.args.number c.args.lanes c.args.jobs.now c.args.self.now),
)

pub loop-job-preserved : goal.loop-job-preserved
loop-job-preserved g c =
    let told = g.T.DiskCalls.told in
    let counts = g.T.DiskCalls.counts in
    let within = c.loop-job-test.true in
    let left = subst (λ (rows : List Job). IsOpenedInOrder c.args.plan.now c.args.number c.args.lanes c.args.jobs.now rows c.args.self.now c.loop-job.self c.loop-job.waiting.items)
    (left_is c.args.jobs.now c.loop-job.job-index c.job-item.result within c.job-item.is) c.loop-job.invariant.1 in
    elim c.if-lane_of-number.branch [
      | then-lane_of-number w ↦
          let row_of = sym c.lane_of.ensures.lane ∙ w.if-lane_of-number.true in
          rw (w.self-is, w.site-is, w.waiting-is) (
            opening_row told counts c.args.plan.now c.args.jobs.now c.args.number c.args.lanes c.args.site.now c.args.self.now c.loop-job.site c.loop-job.self c.loop-job.waiting.items c.loop-job.job-index c.loop-job.invariant.0
                w.open_keyset-waiting.new.site w.open_keyset-waiting.new.self w.open_keyset-waiting.result.items c.job-item.result (c.loop-job.job-index, within, sym c.job-item.is) c.job-item.is within
                row_of w.open_keyset-waiting.ensures,
            open_order_row told counts c.args.plan.now c.args.number c.args.lanes c.args.jobs.now c.args.self.now (drop (c.loop-job.job-index + 1) c.args.jobs.now) c.loop-job.self w.open_keyset-waiting.new.self c.loop-job.site w.open_keyset-waiting.new.site
                c.loop-job.waiting.items w.open_keyset-waiting.result.items c.job-item.result row_of left w.open_keyset-waiting.ensures,
          )
      | else-lane_of-number w ↦
          rw (w.self-is, w.site-is, w.waiting-is) (
            opening_other told counts c.args.plan.now c.args.jobs.now c.args.number c.args.lanes c.args.site.now c.args.self.now c.loop-job.site c.loop-job.self c.loop-job.waiting.items c.loop-job.job-index c.job-item.result c.job-item.is within
                (λ of. w.if-lane_of-number.false (c.lane_of.ensures.lane ∙ of)) c.loop-job.invariant.0,
            open_order_other told counts c.args.plan.now c.args.number c.args.lanes c.args.jobs.now c.args.self.now (drop (c.loop-job.job-index + 1) c.args.jobs.now) c.loop-job.self c.loop-job.waiting.items c.job-item.result
                (λ of. w.if-lane_of-number.false (c.lane_of.ensures.lane ∙ of)) left,
          )
    ]

pub returns-clause-passed : goal.returns-clause-passed
returns-clause-passed g c =
    (opening_done g.T.DiskCalls.told g.T.DiskCalls.counts c.args.plan.now c.args.jobs.now c.args.number c.args.lanes c.args.site.now c.args.self.now c.loop-job.site c.loop-job.self c.loop-job.waiting.items c.loop-job.job-index c.loop-job.invariant.0
    c.add_waiting.new.site c.add_waiting.new.self c.add_waiting.ensures).0

pub returns-clause-opened : goal.returns-clause-opened
returns-clause-opened g c = λ goes_on i job below within of.
    (opening_done g.T.DiskCalls.told g.T.DiskCalls.counts c.args.plan.now c.args.jobs.now c.args.number c.args.lanes c.args.site.now c.args.self.now c.loop-job.site c.loop-job.self c.loop-job.waiting.items c.loop-job.job-index c.loop-job.invariant.0
    c.add_waiting.new.site c.add_waiting.new.self c.add_waiting.ensures).1 goes_on i job (omega (arith, below, c.loop-job-test.false)) within of

pub returns-clause-order : goal.returns-clause-order
returns-clause-order g c =
    open_order_done g.T.DiskCalls.told g.T.DiskCalls.counts c.args.plan.now c.args.number c.args.lanes c.args.jobs.now c.args.self.now c.loop-job.self c.add_waiting.new.self c.loop-job.site c.add_waiting.new.site c.loop-job.waiting.items
    (subst (λ (rows : List Job). IsOpenedInOrder c.args.plan.now c.args.number c.args.lanes c.args.jobs.now rows c.args.self.now c.loop-job.self c.loop-job.waiting.items) (drop_of_length-le c.args.jobs.now c.loop-job-test.false) c.loop-job.invariant.1)
    c.add_waiting.ensures
