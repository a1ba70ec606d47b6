use Rattle.std.proofs.Common.{◌≡◌, ◌++◌, take, map, string_bytes}
use Rattle.std.specs.List.{flat_map}
use Rattle.reports.specs.Report.{entries_in, history_of}
use Rattle.reports.specs.Packets.{packet_header, lines_of_job}
use Rattle.reports.proofs.packets.packet_text.Given as goal

abbrev pub invariant-loop-job : goal.invariant-loop-job
invariant-loop-job l =
    string_bytes l.text
    ≡ packet_header ++ flat_map (λ job. lines_of_job (history_of (map entries_in l.histories) job.keyset.card) job.id) (take l.job-index l.jobs)
