use denote.Param.{param}
use Rattle.senders.proofs.CrossingLemmas.{sends, syncs}
use Rattle.senders.proofs.locking.close_one.Goals as goal

pub close-requires-send-L : goal.close-requires-send-L
close-requires-send-L g c = λ κs lives. sends (param 0 g.row.T) (param 1 g.row.T-Beside) (param 2 g.row.T-Choice) g.T.SiteCalls g.T.DiskCalls _ c.type_bounds.send-T

pub close-requires-sync-L : goal.close-requires-sync-L
close-requires-sync-L g c = λ κs lives. syncs (param 0 g.row.T) (param 1 g.row.T-Beside) (param 2 g.row.T-Choice) g.T.SiteCalls g.T.DiskCalls _ c.type_bounds.sync-T
