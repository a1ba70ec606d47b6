use Rattle.std.proofs.Common.{ℕ, [], ◌∷◌, length, length-append, ap, sym, subst, arith}
use Rattle.senders.specs.Pieces.{EachAt}
use Rattle.senders.specs.Trials.{IsBegun}
use Rattle.senders.specs.contracts.held_site.HeldSiteDiskCalls.TheImpl as held
use Rattle.senders.proofs.TrialLemmas.{at_more}
use Rattle.senders.proofs.tests.lanes_of.Goals as goal

pub loop-number-preserved : goal.loop-number-preserved
loop-number-preserved c =
    let inv = c.loop-number.invariant in
    let lt = c.loop-number-test.true in
    let was = inv.count in
    let long = ap length c.in_ok-push.ensures.items in
    let more = length-append c.loop-number.lanes.items (c.in_ok-lane.field-0 ∷ []) in
    record {
      begun = subst (EachAt (IsBegun held.counts-value.it c.args.count) 0) (sym c.in_ok-push.ensures.items)
          (at_more (IsBegun held.counts-value.it c.args.count) 0 c.loop-number.lanes.items c.in_ok-lane.field-0 inv.begun
          (subst (λ (n : ℕ). IsBegun held.counts-value.it c.args.count n c.in_ok-lane.field-0) (omega (arith, was)) c.in_ok-lane.ensures));
      count = omega (arith, was, long, more);
      within = omega (arith, lt);
    }
