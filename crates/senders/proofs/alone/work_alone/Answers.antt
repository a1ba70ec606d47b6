use denote.Param.{param}
use Rattle.senders.proofs.CrossingLemmas.{sends_at}
use Rattle.senders.proofs.alone.work_alone.Goals as goal

pub for_each_mut-requires-send-T : goal.for_each_mut-requires-send-T
for_each_mut-requires-send-T g c = λ κs lives. sends_at (param 0 g.row.T) (param 3 g.row.T-Beside) (param 4 g.row.T-Choice) g.T.SiteCalls g.T.DiskCalls 1 _ c.type_bounds.send-T
