use Rattle.gate_log.specs.Readers.{octets_left}
use Rattle.gate_log.proofs.tests.first_wrong.Given as goal

abbrev pub decreases-loop-reader : goal.decreases-loop-reader
decreases-loop-reader g l = octets_left l.reader
