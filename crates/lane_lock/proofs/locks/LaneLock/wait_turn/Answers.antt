use Rattle.std.proofs.Common.{rules, ap, subst, ◌∙◌}
use Rattle.lane_lock.specs.Plays.{Took}
use Rattle.lane_lock.proofs.Looking.{looks}
use Rattle.lane_lock.proofs.locks.LaneLock.wait_turn.Goals as goal

pub load-requires : goal.load-requires
load-requires g c =
    let e = c.loop.invariant.1 in
    (search rules, search rules, looks g.L.Kept.meaning _ g.L.Kept.later_opening _ _ _ c.args.ticket (ap (λ x. x.0.stage) e ∙ c.requires.waiting) (ap (λ x. x.1) e ∙ c.requires.empty))

pub returns-then-load-ticket-clause-took : goal.returns-then-load-ticket-clause-took
returns-then-load-ticket-clause-took g c =
    let e = c.loop.invariant.1 in
    subst (λ x. Took g.L.Kept.meaning c.args.ticket x.0 c.load.new.seat.me) e
    ((c.load.ensures.2 c.args.ticket (ap (λ x. x.0.stage) e ∙ c.requires.waiting)).1 c.if-load-ticket.true)
