use Rattle.lane_session.specs.OneLive.{one_live}
use Rattle.lane_session.proofs.laws.each_job_stays_live_once.Goals as goal

pub returns : goal.returns
returns c = λ plan jobs befores afters distinct none grown live job. one_live plan jobs befores afters distinct none grown live job
