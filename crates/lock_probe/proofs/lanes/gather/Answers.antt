use Rattle.std.proofs.Common.{ap, refl, subst, All}
use Rattle.lane_lock.specs.Locks.{IsOf}
use Rattle.lane_lock.proofs.Trials.{gathered, all_front}
use Rattle.lock_probe.proofs.lanes.gather.Goals as goal

pub loop-seat-preserved : goal.loop-seat-preserved
loop-seat-preserved c = record {
  of = c.join.ensures.of;
  rest = all_front (λ s. IsOf c.args.lock.now s) _ _ (subst (λ l. All (λ s. IsOf c.args.lock.now s) l) c.in-Some.ensures.items c.loop-seat.invariant.rest);
  numbers = λ n. gathered _ _ _ n _ _ _ c.in-Some.seat _ (ap (λ v. v.parts) c.join.ensures.joined) refl c.in-Some.ensures.items (c.loop-seat.invariant.numbers n);
}
