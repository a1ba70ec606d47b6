use Rattle.std.proofs.Common.{◌+◌, ◌∙◌}
use Rattle.std.proofs.lemmas.List.{at_drop_all}
use Rattle.lane_session.specs.Differences.{histories_of, job_difference_from}
use Rattle.lane_session.proofs.DifferenceLaws.{none_differs}
use Rattle.lane_session.proofs.differences.job_difference.Goals as goal

pub returns-clause-none : goal.returns-clause-none
returns-clause-none c =
    let jobs = c.args.jobs.now in
    let histories = histories_of c.args.lanes.now in
    λ is. none_differs 1 jobs histories
    (c.loop-place.invariant ∙ at_drop_all (λ rows. job_difference_from (c.loop-place.place + 1) rows histories) jobs c.loop-place.place c.loop-place-test.false)
