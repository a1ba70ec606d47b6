use Rattle.std.proofs.Common.{rules, ap, arith}
use Rattle.lane_lock.proofs.Sharing.{splits}
use Rattle.lane_lock.proofs.locks.LaneLock.deal.Goals as goal

pub split_seat-inner-requires : goal.split_seat-inner-requires
split_seat-inner-requires g c =
    let e = c.loop-given.invariant.view in
    let next = ap (λ x. x.0.next) e in
    let past = ap (λ x. x.0.past) e in
    let seats = c.requires.seats in
    (search rules, search rules, splits g.L.Kept.meaning _ _ _ (ap (λ x. x.0.stage) e) (omega arith))
