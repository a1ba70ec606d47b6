use Rattle.std.proofs.Common.{◌≡◌, ℕ, ◌+◌, All, length}
use Rattle.lane_lock.specs.Numbers.{total}
use Rattle.lane_lock.specs.Views.{numbered}
use Rattle.lane_lock.specs.Locks.{view_of, IsOf}
use Rattle.lock_probe.proofs.lanes.gather.Given as goal

abbrev pub invariant-loop-seat : goal.invariant-loop-seat
invariant-loop-seat l = record {
  of : IsOf l.lock l.all;
  rest : All (λ s. IsOf l.lock s) l.rest.items;
  numbers : (n : ℕ) → numbered n (view_of l.all).parts + total (λ s. numbered n (view_of s).parts) l.rest.items
      ≡ numbered n (view_of l.initial.all).parts + total (λ s. numbered n (view_of s).parts) l.initial.rest.items;
}

abbrev pub decreases-loop-seat : goal.decreases-loop-seat
decreases-loop-seat l = length l.rest.items
