use Rattle.expanded_scripts.proofs.TemplateLaws.{read-as, refused-as}
use Rattle.expanded_scripts.proofs.reading.read_template.Goals as goal

pub returns-clause-each_script : goal.returns-clause-each_script
returns-clause-each_script c = read-as c.args.octets.now c.template_in.result c.template_in.ensures.script c.template_in.ensures.refused

pub returns-clause-each_refusal : goal.returns-clause-each_refusal
returns-clause-each_refusal c = refused-as c.args.octets.now c.template_in.result c.template_in.ensures.script c.template_in.ensures.refused
