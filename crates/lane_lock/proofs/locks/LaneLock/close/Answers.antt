use Rattle.std.proofs.Common.{sym, subst, ◌∙◌}
use mathlib.Core.Option.{some-injective}
use Rattle.lane_lock.specs.Grown.{IsGrown}
use Rattle.lane_lock.proofs.Carried.{not_empty, same_lane}
use Rattle.lane_lock.proofs.Closing.{closes, weighs}
use Rattle.lane_lock.proofs.locks.LaneLock.close.Goals as goal

pub unreachable-requires : goal.unreachable-requires
unreachable-requires g c =
    let seat = c.args.seat in
    let t = closes g.L.Kept.meaning c.args.self.table.shared.key g.L.Kept.later_opening seat.inner.id seat.inner.me.0 _ _ seat.resting c.requires.all c.close_with-closed.ensures.values.2 in
    not_empty t.0 (some-injective _ _ (sym t.1 ∙ c.take-lane.ensures.value) ∙ c.in-None.is)

pub returns-clause-grown : goal.returns-clause-grown
returns-clause-grown g c =
    let seat = c.args.seat in
    let t = closes g.L.Kept.meaning c.args.self.table.shared.key g.L.Kept.later_opening seat.inner.id seat.inner.me.0 _ _ seat.resting c.requires.all c.close_with-closed.ensures.values.2 in
    subst (λ l. IsGrown g.L.Kept.meaning c.args.self.table.shared.key seat.inner.me.0 l) (same_lane t.0 _ (some-injective _ _ (sym t.1 ∙ c.take-lane.ensures.value) ∙ c.in-Some.is)) t.2

pub returns-clause-weighs : goal.returns-clause-weighs
returns-clause-weighs g c =
    let seat = c.args.seat in
    let t = closes g.L.Kept.meaning c.args.self.table.shared.key g.L.Kept.later_opening seat.inner.id seat.inner.me.0 _ _ seat.resting c.requires.all c.close_with-closed.ensures.values.2 in
    weighs g.L.Kept.meaning c.args.self.table.shared.key seat.inner.me.0 _
    (subst (λ l. IsGrown g.L.Kept.meaning c.args.self.table.shared.key seat.inner.me.0 l) (same_lane t.0 _ (some-injective _ _ (sym t.1 ∙ c.take-lane.ensures.value) ∙ c.in-Some.is)) t.2)
