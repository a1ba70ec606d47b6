use Rattle.counter_journal.specs.JournalLaws.{fit_of}
use Rattle.lane_session.proofs.histories.history_of.Goals as goal

pub returns-clause-fit : goal.returns-clause-fit
returns-clause-fit c = fit_of c.args.lane.journal.lane c.args.lane.journal.lanes c.into_history.result.entries c.into_history.ensures.of_lane
