use Rattle.senders.proofs.TrialLemmas.{may_watch}
use Rattle.senders.proofs.tests.watched.Goals as goal

pub returns : goal.returns
returns c = may_watch c.args.lanes 1 c.loop-part.watch.items c.loop-part.invariant.watched
