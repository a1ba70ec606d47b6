use Rattle.ota_commands.proofs.RowLaws.{are_rows}
use Rattle.ota_commands.proofs.inputs.jobs_from.Goals as goal

pub returns-in-Ok-clause-rows : goal.returns-in-Ok-clause-rows
returns-in-Ok-clause-rows g c = are_rows c.args.plan.now c.in-Ok.jobs.items c.in-Ok.ensures.listed c.in-Ok.ensures.distinct c.in-Ok.ensures.few
