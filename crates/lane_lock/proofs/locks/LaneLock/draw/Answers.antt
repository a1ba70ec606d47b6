use Rattle.std.proofs.Common.{rules, ap, ◌∙◌, arith}
use Rattle.lane_lock.specs.Views.{leader}
use Rattle.lane_lock.proofs.Drawing.{draws}
use Rattle.lane_lock.proofs.Passing.{led_number}
use Rattle.lane_lock.proofs.locks.LaneLock.draw.Goals as goal

pub compare_exchange-found-requires : goal.compare_exchange-found-requires
compare_exchange-found-requires g c =
    let e = c.loop.invariant.1 in
    let led = c.requires.led in (
      search rules,
      search rules,
      draws g.L.Kept.meaning _ _ _ _ _ _ (ap (λ x. x.0.stage) e ∙ c.requires.resting) led.0 (led_number _ led.0 (ap (λ x. leader x.0.parts) e ∙ led.1)) (search rules) (omega arith),
    )
