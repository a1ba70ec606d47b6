use Rattle.std.proofs.Common.{◌≡◌, ℕ}
use Rattle.lane_lock.specs.Views.{numbered}
use Rattle.lane_lock.specs.Locks.{view_of, IsOf}
use Rattle.lock_probe.proofs.lanes.add_many.Given as goal

abbrev pub invariant-loop : goal.invariant-loop
invariant-loop g l = record {
  of : IsOf l.lock l.seat;
  numbers : (n : ℕ) → numbered n (view_of l.seat).parts ≡ numbered n (view_of l.initial.seat).parts;
}
