use Rattle.std.proofs.Common.{string_bytes}
use Rattle.campaigns.specs.Drill.{jobs_header, job_line}
use Rattle.campaigns.proofs.DrillLemmas.{one_line_more}
use Rattle.campaigns.proofs.drill.drill_jobs.Goals as goal

pub loop-before-preserved : goal.loop-before-preserved
loop-before-preserved c = record {
  text = rw (c.in_ok-put_job.ensures.text c.args.number c.loop-before.invariant.state)
      (one_line_more (job_line c.args.number c.args.cards) jobs_header (string_bytes c.loop-before.text) c.loop-before.before c.loop-before.invariant.text);
  state = c.in_ok-put_job.ensures.state c.args.number c.loop-before.invariant.state;
}
