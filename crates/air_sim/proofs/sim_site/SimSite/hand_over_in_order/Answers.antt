use Rattle.std.proofs.Common.{arith, subst, sym}
use Rattle.air_sim.specs.Polls.{HandsInOrder, progress_of}
use Rattle.air_sim.proofs.PollLemmas.{in_order_answered, in_order_begins, in_order_ends, in_order_goes_on, in_order_next, in_order_same, in_order_wants, in_order_works}
use Rattle.air_sim.proofs.SendLemmas.{handed_on}
use Rattle.air_sim.proofs.sim_site.SimSite.hand_over_in_order.Goals as goal

pub loop-position-init : goal.loop-position-init
loop-position-init g c = in_order_begins g.D.DiskCalls.told g.D.DiskCalls.counts c.args.self.now

pub loop-position-preserved : goal.loop-position-preserved
loop-position-preserved g c =
    in_order_goes_on g.D.DiskCalls.told g.D.DiskCalls.counts c.args.self.now c.loop-position.self c.loop-position.position c.loop-position.invariant c.hand_over.new.self c.hand_over.result c.hand_over.ensures.works c.hand_over.ensures.hands c.hand_over.ensures.same c.hand_over.ensures.next
    c.in_ok-hand_over.was (omega (arith, c.if-count-made.false, c.count.ensures, c.count-made.ensures))

pub returns-clause-hands : goal.returns-clause-hands
returns-clause-hands g c =
    in_order_ends g.D.DiskCalls.told g.D.DiskCalls.counts c.args.self.now c.loop-position.self c.loop-position.position c.loop-position.invariant
    (omega (arith, c.loop-position-test.false, c.len-position-end.ensures, c.args.self.now.parts.sent.ok.0))

pub returns-in_err-hand_over-clause-works : goal.returns-in_err-hand_over-clause-works
returns-in_err-hand_over-clause-works g c =
    in_order_works g.D.DiskCalls.told g.D.DiskCalls.counts c.args.self.now c.loop-position.self c.loop-position.position c.loop-position.invariant c.hand_over.new.self c.hand_over.result c.hand_over.ensures.works c.hand_over.ensures.hands c.hand_over.ensures.same c.hand_over.ensures.next

pub returns-in_err-hand_over-clause-same : goal.returns-in_err-hand_over-clause-same
returns-in_err-hand_over-clause-same g c =
    in_order_same g.D.DiskCalls.told g.D.DiskCalls.counts c.args.self.now c.loop-position.self c.loop-position.position c.loop-position.invariant c.hand_over.new.self c.hand_over.result c.hand_over.ensures.works c.hand_over.ensures.hands c.hand_over.ensures.same c.hand_over.ensures.next

pub returns-in_err-hand_over-clause-next : goal.returns-in_err-hand_over-clause-next
returns-in_err-hand_over-clause-next g c =
    in_order_next g.D.DiskCalls.told g.D.DiskCalls.counts c.args.self.now c.loop-position.self c.loop-position.position c.loop-position.invariant c.hand_over.new.self c.hand_over.result c.hand_over.ensures.works c.hand_over.ensures.hands c.hand_over.ensures.same c.hand_over.ensures.next

pub returns-in_err-hand_over-clause-hands : goal.returns-in_err-hand_over-clause-hands
returns-in_err-hand_over-clause-hands g c =
    subst (λ result. HandsInOrder g.D.DiskCalls.told g.D.DiskCalls.counts (progress_of c.args.self.now) (progress_of c.hand_over.new.self) result)
    (sym (handed_on c.from_residual.result c.in_err-hand_over.field-0.0 c.from_residual.ensures.1))
    (in_order_wants g.D.DiskCalls.told g.D.DiskCalls.counts c.args.self.now c.loop-position.self c.loop-position.position c.loop-position.invariant c.hand_over.new.self c.hand_over.result c.hand_over.ensures.works c.hand_over.ensures.hands c.hand_over.ensures.same c.hand_over.ensures.next
    c.in_err-hand_over.field-0.0 c.in_err-hand_over.was)

pub returns-then-count-made-clause-works : goal.returns-then-count-made-clause-works
returns-then-count-made-clause-works g c =
    in_order_works g.D.DiskCalls.told g.D.DiskCalls.counts c.args.self.now c.loop-position.self c.loop-position.position c.loop-position.invariant c.hand_over.new.self c.hand_over.result c.hand_over.ensures.works c.hand_over.ensures.hands c.hand_over.ensures.same c.hand_over.ensures.next

pub returns-then-count-made-clause-same : goal.returns-then-count-made-clause-same
returns-then-count-made-clause-same g c =
    in_order_same g.D.DiskCalls.told g.D.DiskCalls.counts c.args.self.now c.loop-position.self c.loop-position.position c.loop-position.invariant c.hand_over.new.self c.hand_over.result c.hand_over.ensures.works c.hand_over.ensures.hands c.hand_over.ensures.same c.hand_over.ensures.next

pub returns-then-count-made-clause-next : goal.returns-then-count-made-clause-next
returns-then-count-made-clause-next g c =
    in_order_next g.D.DiskCalls.told g.D.DiskCalls.counts c.args.self.now c.loop-position.self c.loop-position.position c.loop-position.invariant c.hand_over.new.self c.hand_over.result c.hand_over.ensures.works c.hand_over.ensures.hands c.hand_over.ensures.same c.hand_over.ensures.next

pub returns-then-count-made-clause-hands : goal.returns-then-count-made-clause-hands
returns-then-count-made-clause-hands g c =
    in_order_answered g.D.DiskCalls.told g.D.DiskCalls.counts c.args.self.now c.loop-position.self c.loop-position.position c.loop-position.invariant c.hand_over.new.self c.hand_over.result c.hand_over.ensures.works c.hand_over.ensures.hands c.hand_over.ensures.same c.hand_over.ensures.next
    c.in_ok-hand_over.was (omega (arith, c.if-count-made.true, c.count.ensures, c.count-made.ensures))
