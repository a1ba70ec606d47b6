use Rattle.std.proofs.Common.{ℕ, [], ◌∷◌, length, length-append, ap, refl, sym, subst, arith}
use Rattle.senders.specs.Trials.{AreTrials, IsTrial}
use Rattle.senders.proofs.TrialLemmas.{trials_more}
use Rattle.senders.proofs.tests.piece.Goals as goal

pub loop-number-preserved : goal.loop-number-preserved
loop-number-preserved c =
    let inv = c.loop-number.invariant in
    let lt = c.loop-number-test.true in
    let was = inv.count in
    let long = ap length c.in-Ok.ensures.ok in
    let more = length-append c.loop-number.jobs (c.in_ok-job.field-0 ∷ []) in
    record {
      trials = subst (AreTrials c.args.lane c.args.from) (sym c.in-Ok.ensures.ok)
          (trials_more c.args.lane c.args.from c.loop-number.jobs c.in_ok-job.field-0 inv.trials
          (subst (λ (n : ℕ). IsTrial c.args.lane n c.in_ok-job.field-0) (omega (arith, was)) c.in_ok-job.ensures));
      count = omega (arith, was, long, more);
      within = omega (arith, lt);
      stop = refl;
    }
