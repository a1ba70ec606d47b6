use Rattle.campaigns.specs.LiveLaws.{one_live}
use Rattle.campaigns.proofs.laws.each_job_stays_live_once.Goals as goal

pub returns : goal.returns
returns c = λ jobs befores afters distinct none grown live job. one_live jobs befores afters distinct none grown live job
