use Rattle.std.proofs.Common.{ap, subst, ◌∙◌}
use Rattle.lane_lock.specs.Grown.{IsFound}
use Rattle.lane_lock.specs.Locks.{key_of}
use Rattle.lane_lock.proofs.Looking.{found_before}
use Rattle.lane_lock.proofs.locks.LaneLock.hold.Goals as goal

pub returns-clause-found : goal.returns-clause-found
returns-clause-found g c =
    let drawn = c.draw-ticket.ensures.drawn in
    let key = key_of c.args.self.now in
    found_before g.L.Kept.meaning key _ _ _
    (subst (λ x. IsFound g.L.Kept.meaning key x.0 c.take-lane.result) drawn
    (c.take-lane.ensures.found key (ap (λ x. x.0.key) drawn ∙ c.requires.1)))
