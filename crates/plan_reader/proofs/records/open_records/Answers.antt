use Rattle.plan_reader.proofs.RecordLemmas.{opened}
use Rattle.plan_reader.proofs.records.open_records.Goals as goal

pub returns-clause-rows : goal.returns-clause-rows
returns-clause-rows c = opened c.from_reader.result c.args.octets.now c.from_reader.ensures.source c.from_reader.ensures.state
