use Rattle.std.proofs.Common.{◌≡◌, ◌+◌, ◌<◌, ◌≤◌, ◌++◌, ℕ, [], length, map, slice_index_or}
use Rattle.std.specs.Prelude.{vec_capacity, vec_len}
use Rattle.std.specs.Vec.Iter.{into_iter_items, into_iter_len}
use Rattle.lane_lock.specs.Locks.{key_of}
use Rattle.lane_lock.specs.Numbers.{same, Each}
use Rattle.senders.specs.Desks.{IsRow, put_in}
use Rattle.senders.proofs.locking.lock_all.Given as goal

abbrev pub invariant-loop-lane : goal.invariant-loop-lane
invariant-loop-lane g l = record {
  whole : map put_in l.hall.locks.items ++ into_iter_items l.lanes ≡ l.fn.lanes.items;
  rest : into_iter_len l.lanes + length l.hall.locks.items ≡ length l.fn.lanes.items;
  keys : Each (λ lock. ((key_of lock).pace ≡ l.fn.pace) × ((key_of lock).seats ≡ vec_len l.fn.hall.rows)) l.hall.locks.items;
  room : vec_len l.fn.lanes ≤ vec_capacity l.hall.locks;
  count : vec_len l.hall.rows ≡ vec_len l.fn.hall.rows;
  rows : (place : ℕ) (row : _) → place < length l.hall.rows.items → (vec_len l.fn.lanes ≤ vec_capacity (slice_index_or l.hall.rows.items place row))
      × IsRow (λ n. same n (place + 1)) [] [] l.hall.locks.items (slice_index_or l.hall.rows.items place row).items;
  back : l.hall.back.items ≡ [];
  back_room : vec_len l.fn.lanes ≤ vec_capacity l.hall.back;
}

abbrev pub decreases-loop-lane : goal.decreases-loop-lane
decreases-loop-lane g l = length (into_iter_items l.lanes)
