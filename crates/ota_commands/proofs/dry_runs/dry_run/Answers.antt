use Rattle.ota_commands.proofs.Responses.{each-cause}
use Rattle.ota_commands.proofs.dry_runs.dry_run.Goals as goal

pub returns-clause-complete : goal.returns-clause-complete
returns-clause-complete g c = each-cause _ _ _ c.run_words-fault.result c.run_words-fault.ensures.cause
