use Rattle.gate_log.specs.Spelled.{parts-spelled}
use Rattle.gate_log.proofs.laws.spelled_logs_open.Goals as goal

pub returns : goal.returns
returns c = λ head batches octets. parts-spelled head batches octets
