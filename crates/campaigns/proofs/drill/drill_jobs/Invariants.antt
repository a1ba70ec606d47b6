use Rattle.std.proofs.Common.{◌≡◌, ◌*◌, ◌++◌, string_bytes}
use Rattle.std.specs.List.{flat_map, range_with_len}
use Rattle.campaigns.specs.Drill.{state_at, jobs_header, job_line}
use Rattle.campaigns.proofs.drill.drill_jobs.Given as goal

abbrev pub invariant-loop-before : goal.invariant-loop-before
invariant-loop-before l = record {
  text : string_bytes l.text ≡ jobs_header ++ flat_map (job_line l.number l.cards) (range_with_len 0 l.before);
  state : l.state ≡ state_at l.number (29 * l.before);
}
