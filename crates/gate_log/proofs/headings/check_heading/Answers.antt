use Rattle.std.proofs.Common.{sym}
use Rattle.gate_log.specs.Readings.{is_formatted}
use Rattle.gate_log.proofs.headings.check_heading.Goals as goal

pub returns-in-Formatted-clause-long : goal.returns-in-Formatted-clause-long
returns-in-Formatted-clause-long c = (is_formatted c.args.head.now c.args.octets.now (sym c.in-Formatted.ensures)).long
