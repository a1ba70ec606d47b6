use Rattle.gate_log.specs.SpelledBack.{parts_spelled-back}
use Rattle.gate_log.proofs.laws.opened_logs_are_spelled.Goals as goal

pub returns : goal.returns
returns c = λ head parts octets nine are opens. parts_spelled-back head parts opens.0 octets nine are opens.1
