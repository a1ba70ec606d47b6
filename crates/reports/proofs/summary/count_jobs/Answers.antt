use Rattle.std.proofs.Common.{◌≡◌, ℕ, ◌+◌, Bool, true, false, take, ◌∙◌, refl}
use Rattle.keyset_book.specs.declared.answers.Looked.{Looked}
use Rattle.reports.specs.Summary.{is_done, is_refused, is_unsettled, looked_in, jobs_that}
use Rattle.reports.proofs.Rows.{one_counted_more}
use Rattle.reports.proofs.summary.count_jobs.Goals as goal

pub loop-job-preserved : goal.loop-job-preserved
loop-job-preserved c = record {
  done = counted is_done c.loop-job.done c.from-done.result c.loop-job.invariant.done
      (λ yes. c.from-done.ensures ∙ rw (c.is_done.ensures, looked, yes) refl) (λ no_more. c.from-done.ensures ∙ rw (c.is_done.ensures, looked, no_more) refl);
  refused = counted is_refused c.loop-job.refused c.from-refused.result c.loop-job.invariant.refused
      (λ yes. c.from-refused.ensures ∙ rw (c.is_refused.ensures, looked, yes) refl) (λ no_more. c.from-refused.ensures ∙ rw (c.is_refused.ensures, looked, no_more) refl);
  unsettled = counted is_unsettled c.loop-job.unsettled c.from-unsettled.result c.loop-job.invariant.unsettled
      (λ yes. c.from-unsettled.ensures ∙ rw (c.is_unsettled.ensures, looked, yes) refl) (λ no_more. c.from-unsettled.ensures ∙ rw (c.is_unsettled.ensures, looked, no_more) refl);
}
  where
    looked : c.look-looked.result ≡ looked_in c.args.lanes.now c.job-item.result
    looked = rw (c.look-looked.ensures, c.book_of.ensures) refl

    counted : (test : Looked → Bool) (so_far more : ℕ) → so_far ≡ jobs_that test c.args.lanes.now (take c.loop-job.job-index c.args.jobs.now)
        → (test (looked_in c.args.lanes.now c.job-item.result) ≡ true → more ≡ 1) → (test (looked_in c.args.lanes.now c.job-item.result) ≡ false → more ≡ 0)
        → so_far + more ≡ jobs_that test c.args.lanes.now (take (c.loop-job.job-index + 1) c.args.jobs.now)
    counted test so_far more =
        one_counted_more (λ job. test (looked_in c.args.lanes.now job)) c.args.jobs.now c.loop-job.job-index c.job-item.result so_far more
        c.loop-job-test.true c.job-item.is
