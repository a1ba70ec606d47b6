use Rattle.std.proofs.Common.{◌≡◌, ◌≤◌, length, map, take}
use Rattle.std.specs.Prelude.{vec_capacity}
use Rattle.senders.proofs.alone.ends_of.Given as goal

abbrev pub invariant-loop-lane : goal.invariant-loop-lane
invariant-loop-lane g l = record {
  ends : l.ends.items ≡ map (λ lane. lane.end) (take l.lane-index l.lanes);
  room : length l.lanes ≤ vec_capacity l.ends;
}
