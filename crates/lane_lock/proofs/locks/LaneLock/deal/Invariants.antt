use Rattle.std.proofs.Common.{◌≡◌, ◌≤◌, [], map}
use Rattle.std.specs.Prelude.{vec_capacity, vec_len}
use Rattle.lane_lock.specs.Numbers.{Each}
use Rattle.lane_lock.specs.Locks.{key_of, number_of, IsFresh, first_numbers, dealt}
use Rattle.lane_lock.proofs.locks.LaneLock.deal.Given as goal

abbrev pub invariant-loop-given : goal.invariant-loop-given
invariant-loop-given g l = record {
  at : l.dealer.table_id ≡ l.self.table.shared.table_id;
  view : l.dealer.me ≡ (dealt g.L.Kept.meaning (key_of l.self) l.given, []);
  numbers : map number_of l.row.items ≡ first_numbers l.given;
  fresh : Each (IsFresh g.L.Kept.meaning l.self) l.row.items;
  len : vec_len l.row ≡ l.given;
  room : l.seats ≤ vec_capacity l.row;
}
