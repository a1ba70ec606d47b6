use Rattle.std.proofs.Common.{◌≡◌, ◌++◌, take, map, string_bytes}
use Rattle.std.specs.List.{flat_map}
use Rattle.reports.specs.Report.{header, row_of, entries_in, history_of}
use Rattle.reports.proofs.report.report_text.Given as goal

abbrev pub invariant-loop-job : goal.invariant-loop-job
invariant-loop-job l =
    string_bytes l.text ≡ header ++ flat_map (λ job. row_of (history_of (map entries_in l.histories) job.keyset.card) job) (take l.job-index l.jobs)
