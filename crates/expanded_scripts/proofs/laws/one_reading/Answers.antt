use Rattle.expanded_scripts.proofs.TemplateLaws.{one-script, one-refusal, apart}
use Rattle.expanded_scripts.proofs.laws.one_reading.Goals as goal

pub returns-clause-one_script : goal.returns-clause-one_script
returns-clause-one_script c = one-script

pub returns-clause-one_refusal : goal.returns-clause-one_refusal
returns-clause-one_refusal c = one-refusal

pub returns-clause-apart : goal.returns-clause-apart
returns-clause-apart c = apart
