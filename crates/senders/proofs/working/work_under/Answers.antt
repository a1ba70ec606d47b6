use Rattle.senders.proofs.WorkingLemmas.{untouched_all}
use Rattle.senders.proofs.working.work_under.Goals as goal

pub returns-in-Err-clause-untouched : goal.returns-in-Err-clause-untouched
returns-in-Err-clause-untouched g c =
    untouched_all g.T.DiskCalls.told g.T.DiskCalls.counts g.T.SiteCalls.port g.T.SiteCalls.lines c.args.settings.now.batch c.args.lanes.len c.args.work.items 0 c.args.lanes.items c.requires.lanes
