use Rattle.std.proofs.Common.{◌+◌, ◌<◌, ◌≤◌, ℕ, [], length, slice_index_or}
use Rattle.lane_lock.specs.Numbers.{same, within}
use Rattle.senders.specs.Desks.{IsRow}
use Rattle.senders.proofs.locking.unlock.Given as goal

abbrev pub invariant-loop-row : goal.invariant-loop-row
invariant-loop-row g l = record {
  most : length l.rows.items + 1 ≤ length l.fn.hall.rows.items;
  all : IsRow (within (length l.rows.items + 1) (length l.fn.hall.rows.items + 1)) [] [] l.fn.hall.locks.items l.all.items;
  rows : (place : ℕ) (row : _) → place < length l.rows.items → IsRow (λ n. same n (place + 1)) [] [] l.fn.hall.locks.items (slice_index_or l.rows.items place row).items;
}

abbrev pub decreases-loop-row : goal.decreases-loop-row
decreases-loop-row g l = length l.rows.items
