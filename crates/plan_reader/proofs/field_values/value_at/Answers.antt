use Rattle.toml.proofs.Views.{table_get}
use Rattle.plan_reader.proofs.field_values.value_at.Goals as goal

pub returns : goal.returns
returns c = table_get c.get.result c.args.name.now c.args.entry.now.entries c.get.ensures.value
