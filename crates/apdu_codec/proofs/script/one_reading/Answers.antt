use Rattle.apdu_codec.specs.ScriptLaws.{some_reading, one_list, one_cut, apart, some_count, one_count, whole, rest_at}
use Rattle.apdu_codec.proofs.script.one_reading.Goals as goal

pub returns-clause-some_reading : goal.returns-clause-some_reading
returns-clause-some_reading c = some_reading

pub returns-clause-one_list : goal.returns-clause-one_list
returns-clause-one_list c = λ script commands others. one_list script 0 commands others

pub returns-clause-one_cut : goal.returns-clause-one_cut
returns-clause-one_cut c = λ script cut other. one_cut script cut other 0

pub returns-clause-apart : goal.returns-clause-apart
returns-clause-apart c = λ script commands cut. apart script cut 0 commands

pub returns-clause-some_count : goal.returns-clause-some_count
returns-clause-some_count c = some_count

pub returns-clause-one_count : goal.returns-clause-one_count
returns-clause-one_count c = λ script count other. one_count script 0 count other

pub returns-clause-whole : goal.returns-clause-whole
returns-clause-whole c = λ script commands. whole script 0 commands

pub returns-clause-rest : goal.returns-clause-rest
returns-clause-rest c = λ script cut. rest_at script cut 0
