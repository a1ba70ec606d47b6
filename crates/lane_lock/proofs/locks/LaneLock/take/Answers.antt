use Rattle.std.proofs.Common.{ap, sym, subst, ◌∙◌, ◌∷◌, Some}
use Rattle.atomic_table.specs.Table.{rest}
use Rattle.lane_lock.specs.Grown.{IsFound}
use Rattle.lane_lock.proofs.Carried.{same_slot, same_lane}
use Rattle.lane_lock.proofs.locks.LaneLock.take.Goals as goal

pub exchange-requires : goal.exchange-requires
exchange-requires g c =
    let t = c.wait_turn.ensures.took in
    let e = ap (λ x. x.1) t.1 in
    (c.wait_turn.ensures.of.0, (Some t.0, e ∙ ap (λ l. (0, Some t.0) ∷ rest l) (sym e)))

pub returns-clause-found : goal.returns-clause-found
returns-clause-found g c =
    let t = c.wait_turn.ensures.took in
    let same = same_lane t.0 c.in-Some.lane (same_slot (Some t.0) c.exchange.result _ _ _ (ap (λ x. x.1) t.1) c.exchange.ensures.2 ∙ c.in-Some.is) in
    λ k e. subst (λ l. IsFound g.L.Kept.meaning k c.args.inner.now.me.0 l) same (t.2 k e)
