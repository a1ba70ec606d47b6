use Rattle.std.proofs.Common.{◌%◌, map, length, string_bytes}
use Rattle.reports.specs.Report.{entries_in, history_of}
use Rattle.reports.specs.Packets.{HasBody, packet_header, lines_of_job}
use Rattle.reports.proofs.PacketLemmas.{All-history_at}
use Rattle.reports.proofs.Rows.{one_row_more}
use Rattle.reports.proofs.packets.packet_text.Goals as goal

pub put_job_lines-requires : goal.put_job_lines-requires
put_job_lines-requires c =
    let histories = c.args.histories.now in
    rw (c.index_of-lane.ensures, c.deref.ensures.value, c.in_ok-lanes.ensures)
    (All-history_at HasBody histories (c.job-item.result.keyset.card.0 % length (map entries_in histories)) c.requires.bodies)

pub loop-job-preserved : goal.loop-job-preserved
loop-job-preserved c =
    rw (c.in_ok-put_job_lines.ensures, c.index_of-lane.ensures, c.deref.ensures.value, c.in_ok-lanes.ensures)
    (one_row_more (λ job. lines_of_job (history_of (map entries_in c.args.histories.now) job.keyset.card) job.id) packet_header (string_bytes c.loop-job.text)
    c.args.jobs.now c.loop-job.job-index c.job-item.result c.loop-job-test.true c.job-item.is c.loop-job.invariant)
