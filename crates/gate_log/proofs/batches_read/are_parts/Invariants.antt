use Rattle.std.proofs.Common.{◌≡◌, length}
use Rattle.std.specs.Prelude.{is_some}
use Rattle.gate_log.specs.Reading.{parts_from}
use Rattle.gate_log.proofs.batches_read.are_parts.Given as goal

-- the rest is parts where all is
abbrev pub invariant-loop-rest : goal.invariant-loop-rest
invariant-loop-rest l = is_some (parts_from 0 l.rest) ≡ is_some (parts_from 0 l.octets)

abbrev pub decreases-loop-rest : goal.decreases-loop-rest
decreases-loop-rest l = length l.rest
