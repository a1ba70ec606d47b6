use Rattle.std.proofs.Common.{sym, ◌∙◌}
use Rattle.reports.proofs.PacketLemmas.{last_reserved-sized, lines_reserved}
use Rattle.reports.proofs.packets.put_job_lines.Goals as goal

pub put_if_unsettled-requires-clause-some : goal.put_if_unsettled-requires-clause-some
put_if_unsettled-requires-clause-some c =
    (last_reserved-sized c.args.lane.now c.args.job c.in-Some.reserved c.requires (sym c.last_reserved.ensures ∙ c.in-Some.is)).0

pub put_if_unsettled-requires-clause-fits : goal.put_if_unsettled-requires-clause-fits
put_if_unsettled-requires-clause-fits c =
    (last_reserved-sized c.args.lane.now c.args.job c.in-Some.reserved c.requires (sym c.last_reserved.ensures ∙ c.in-Some.is)).1

pub returns-in-Some : goal.returns-in-Some
returns-in-Some c =
    rw (lines_reserved c.args.lane.now c.args.job c.in-Some.reserved (sym c.last_reserved.ensures ∙ c.in-Some.is))
    (rw (c.book.ensures, c.settlement-settled.ensures, c.place.ensures) at c.put_if_unsettled.ensures)
