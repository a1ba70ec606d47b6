-- What a list of jobs says of its rows.
use Rattle.std.proofs.Common.{ℕ, ◌≤◌, IsTrue, List, [], ◌∷◌, length, arith}
use Rattle.std.specs.List.{AllByRecursion}
use Rattle.std.proofs.lemmas.List.Elements.{All-from_recursion}
use Rattle.ota_core.specs.declared.jobs.Job.{Job}
use Rattle.plan_reader.specs.Jobs.{are_distinct}
use Rattle.plan_reader.specs.JobRows.{AreListed}
use Rattle.plan_reader.specs.declared.plans.Plan.{Plan}
use Rattle.lane_session.specs.Lanes.{HasScript}
use Rattle.ota_commands.specs.Inputs.{AreRows}

have_scripts : (plan : Plan) (jobs : List Job) → AreListed plan jobs → AllByRecursion HasScript jobs
have_scripts plan [] allowed = tt
have_scripts plan (job ∷ jobs) allowed = ((allowed.0.filled, omega (arith, allowed.0.short)), have_scripts plan jobs allowed.1)

pub are_rows : (plan : Plan) (jobs : List Job) → AreListed plan jobs → IsTrue (are_distinct jobs) → length jobs ≤ 100000 → AreRows jobs
are_rows plan jobs allowed distinct few = record {
  scripts = All-from_recursion HasScript jobs (have_scripts plan jobs allowed);
  distinct = distinct;
  few = omega (arith, few);
}
