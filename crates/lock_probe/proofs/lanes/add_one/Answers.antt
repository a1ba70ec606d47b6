use Rattle.std.proofs.Common.{ap, sym, ◌∙◌}
use Rattle.lane_lock.proofs.Trials.{may_leave}
use Rattle.lock_probe.proofs.lanes.add_one.Goals as goal

pub leave-requires-clause-lane : goal.leave-requires-clause-lane
leave-requires-clause-lane g c = λ κs.
    may_leave _ _ _ _ c.hold-held.result.1 _ c.number-number.result (ap (λ v. v.seen) c.hold-held.ensures.taken) tt
    c.add.ensures (c.number-number.ensures ∙ sym c.hold-held.ensures.number) (λ x e. e) tt
