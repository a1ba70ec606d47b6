use Rattle.std.proofs.Common.{rules}
use Rattle.lane_lock.proofs.Sharing.{joins, learns}
use Rattle.lane_lock.proofs.locks.LaneLock.join.Goals as goal

pub join_seat-requires : goal.join_seat-requires
join_seat-requires g c = (search rules, search rules, c.args.other.empty, search rules, joins g.L.Kept.meaning _ _ _ _ _ c.args.seat.now.resting c.args.other.resting c.args.other.settled)

pub load-requires : goal.load-requires
load-requires g c = (search rules, search rules, learns g.L.Kept.meaning _ _ _ _)
