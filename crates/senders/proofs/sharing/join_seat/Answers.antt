use denote.Param.{param}
use Rattle.senders.proofs.CrossingLemmas.{sends, syncs}
use Rattle.senders.proofs.HeldLemmas.{seat_joined}
use Rattle.senders.proofs.sharing.join_seat.Goals as goal

pub join-requires-send-L : goal.join-requires-send-L
join-requires-send-L g c = λ κs lives. sends (param 0 g.row.T) (param 1 g.row.T-Beside) (param 2 g.row.T-Choice) g.T.SiteCalls g.T.DiskCalls _ c.type_bounds.send-T

pub join-requires-sync-L : goal.join-requires-sync-L
join-requires-sync-L g c = λ κs lives. syncs (param 0 g.row.T) (param 1 g.row.T-Beside) (param 2 g.row.T-Choice) g.T.SiteCalls g.T.DiskCalls _ c.type_bounds.sync-T

pub returns : goal.returns
returns g c =
    seat_joined c.args.lock.now c.args.seat.now c.in-Some.seat c.args.other c.join.new.seat c.in-Some.is c.join.ensures.of c.join.ensures.joined c.join.ensures.seen.0 c.join.ensures.seen.1
