use Rattle.ota_commands.proofs.ends.difference.Goals as goal

pub returns-in-None-clause-none : goal.returns-in-None-clause-none
returns-in-None-clause-none c = λ none. c.job_difference.ensures.none c.in-None.is
