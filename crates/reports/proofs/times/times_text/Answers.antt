use Rattle.std.proofs.Common.{map, string_bytes}
use Rattle.reports.specs.Report.{entries_in, history_of}
use Rattle.reports.specs.Times.{times_header, times_row}
use Rattle.reports.proofs.Rows.{one_row_more}
use Rattle.reports.proofs.times.times_text.Goals as goal

pub loop-job-preserved : goal.loop-job-preserved
loop-job-preserved c =
    rw (c.in_ok-put_row.ensures, c.index_of.ensures, c.deref.ensures.value, c.in_ok-lanes.ensures)
    (one_row_more (λ job. times_row (history_of (map entries_in c.args.histories.now) job.keyset.card) job.id) times_header (string_bytes c.loop-job.text)
    c.args.jobs.now c.loop-job.job-index c.job-item.result c.loop-job-test.true c.job-item.is c.loop-job.invariant)
