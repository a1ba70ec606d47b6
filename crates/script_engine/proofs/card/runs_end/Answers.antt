use Rattle.script_engine.proofs.Ends.{fits, run-ends}
use Rattle.script_engine.proofs.card.runs_end.Goals as goal

pub returns-clause-ended : goal.returns-clause-ended
returns-clause-ended c = λ card part script count. run-ends card part script count

pub returns-clause-few : goal.returns-clause-few
returns-clause-few c = λ card part script count n has. (fits card part script count has n).few
