use Rattle.std.proofs.Common.{rules, refl}
use Rattle.lane_lock.proofs.Opening.{opens_ruled}
use Rattle.lane_lock.proofs.locks.LaneLock.new.Goals as goal

pub new-requires : goal.new-requires
new-requires g c = opens_ruled g.L.Kept.meaning _ g.L.Kept.later_itself c.args.lane _ _ (search rules) refl (search rules) c.requires.at_home
