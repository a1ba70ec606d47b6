use Rattle.std.proofs.Common.{rules, ap, sym, subst, ◌∙◌, ◌∷◌, Some}
use Rattle.atomic_table.specs.Table.{rest}
use Rattle.lane_lock.specs.Views.{leader, is_holding}
use Rattle.lane_lock.specs.Grown.{MayLeave}
use Rattle.lane_lock.proofs.Passing.{passes}
use Rattle.lane_lock.proofs.locks.LaneLock.leave.Goals as goal

pub fetch_add-requires : goal.fetch_add-requires
fetch_add-requires g c =
    let held = c.args.held in
    let put = c.exchange.ensures.3 in (
      search rules,
      search rules,
      passes g.L.Kept.meaning c.args.self.now.table.shared.key _ _ held.number _ c.args.lane
          (ap (λ x. x.1) put ∙ ap (λ l. (0, Some c.args.lane) ∷ rest l) held.out)
          (ap (λ x. is_holding x.0.stage) put ∙ held.holding)
          (ap (λ x. leader x.0.parts) put ∙ held.led)
          (subst (λ v. MayLeave g.L.Kept.meaning c.args.self.now.table.shared.key v held.number c.args.lane) (sym (ap (λ x. x.0) put)) c.requires.lane),
    )
