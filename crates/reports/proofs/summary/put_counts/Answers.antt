use Rattle.std.proofs.Common.{refl, append_assoc}
use Rattle.reports.proofs.summary.put_counts.Goals as goal

pub returns : goal.returns
returns c = simp (append_assoc, c.in_ok-write-2.ensures.bytes, c.in_ok-write.ensures.bytes) refl
