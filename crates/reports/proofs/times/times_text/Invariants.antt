use Rattle.std.proofs.Common.{◌≡◌, ◌++◌, take, map, string_bytes}
use Rattle.std.specs.List.{flat_map}
use Rattle.reports.specs.Report.{entries_in, history_of}
use Rattle.reports.specs.Times.{times_header, times_row}
use Rattle.reports.proofs.times.times_text.Given as goal

abbrev pub invariant-loop-job : goal.invariant-loop-job
invariant-loop-job l =
    string_bytes l.text
    ≡ times_header ++ flat_map (λ job. times_row (history_of (map entries_in l.histories) job.keyset.card) job.id) (take l.job-index l.jobs)
