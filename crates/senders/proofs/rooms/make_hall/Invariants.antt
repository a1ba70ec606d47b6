use Rattle.std.proofs.Common.{◌≡◌, ◌≤◌, [], All}
use Rattle.std.specs.Prelude.{vec_len, vec_capacity}
use Rattle.senders.proofs.rooms.make_hall.Given as goal

abbrev pub invariant-loop : goal.invariant-loop
invariant-loop g l = record {
  count : vec_len l.rows ≡ l.counter;
  room : l.fn.senders ≤ vec_capacity l.rows;
  rows : All (λ row. (row.items ≡ []) × (l.fn.lanes ≤ vec_capacity row)) l.rows.items;
}
