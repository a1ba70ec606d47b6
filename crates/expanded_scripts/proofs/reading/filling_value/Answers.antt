use Rattle.std.proofs.Common.{[]}
use Rattle.expanded_scripts.proofs.reading.filling_value.Goals as goal

pub returns-in-None-clause-none : goal.returns-in-None-clause-none
returns-in-None-clause-none c = λ value h. c.in-None.ensures.none value [] h
