use Rattle.std.proofs.Common.{refl}
use Rattle.reports.proofs.summary.summary_text.Goals as goal

pub returns : goal.returns
returns c =
    rw (
      c.in_ok-put_counts.ensures,
      c.new-text.ensures.bytes,
      c.count_jobs-counts.ensures.done,
      c.count_jobs-counts.ensures.refused,
      c.count_jobs-counts.ensures.unsettled,
      c.deref.ensures.value,
      c.in_ok-lanes.ensures,
    ) refl
