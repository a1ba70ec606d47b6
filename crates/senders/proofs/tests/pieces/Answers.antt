use Rattle.std.proofs.Common.{ℕ, length, ap, sym, subst, arith}
use Rattle.senders.specs.Pieces.{all_jobs}
use Rattle.senders.specs.Trials.{AreTrialPieces, AreTrials}
use Rattle.senders.proofs.TrialLemmas.{count_jobs, pieces_more}
use Rattle.senders.proofs.tests.pieces.Goals as goal

pub loop-part-preserved : goal.loop-part-preserved
loop-part-preserved c =
    let inv = c.loop-part.invariant in
    let work = c.in_ok-piece.field-0 in
    let is = c.in_ok-piece.ensures in
    let was = inv.count in
    let long = is.1 in
    let lane = is.0 in
    let there = c.if-lane-lanes.false in
    let some = c.if-count-eq0.false in
    let few = c.if-count-batch.false in
    let small = c.if-number-gt900.false in
    let batch = c.requires in
    let more = count_jobs c.loop-part.works.items work in
    let all = ap (λ l. length (all_jobs l)) c.in_ok-push.ensures.items in
    record {
      pieces = subst (AreTrialPieces c.args.batch c.args.lanes 1) (sym c.in_ok-push.ensures.items)
          (pieces_more c.args.batch c.args.lanes 1 c.loop-part.works.items work inv.pieces (record {
            there = omega (arith, there, lane);
            some = omega (arith, some, long);
            few = omega (arith, few, long);
            jobs = subst (λ (n : ℕ). AreTrials work.lane n work.jobs) (omega (arith, was)) (subst (λ (l : ℕ). AreTrials l c.loop-part.number work.jobs) (sym lane) is.2);
          }));
      count = omega (arith, was, long, more, all);
      few = omega (arith, small, few, batch);
    }
