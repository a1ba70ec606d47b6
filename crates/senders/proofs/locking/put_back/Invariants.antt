use Rattle.std.proofs.Common.{◌≡◌, ◌+◌, ◌≤◌, ◌∷◌, ◌++◌, length}
use Rattle.std.specs.Prelude.{vec_capacity, vec_len}
use Rattle.std.specs.Vec.Iter.{into_iter_items, into_iter_len}
use Rattle.senders.proofs.locking.put_back.Given as goal

abbrev pub invariant-loop-lane : goal.invariant-loop-lane
invariant-loop-lane g l = record {
  items : l.lanes.items ++ into_iter_items l.rest ≡ l.fn.lanes.items ++ l.fn.first ∷ into_iter_items l.fn.rest;
  room : vec_len l.lanes + into_iter_len l.rest ≤ vec_capacity l.lanes;
}

abbrev pub decreases-loop-lane : goal.decreases-loop-lane
decreases-loop-lane g l = length (into_iter_items l.rest)
