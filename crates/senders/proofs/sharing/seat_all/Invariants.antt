use Rattle.std.proofs.Common.{◌≡◌, ◌+◌, ◌≤◌, None, [], drop, length, take}
use Rattle.std.specs.Prelude.{vec_capacity, vec_len}
use Rattle.std.specs.Vec.Iter.{into_iter_items, into_iter_len}
use Rattle.crossbeam_queue.specs.Passes.{view, IsPassOf}
use Rattle.senders.specs.Bench.{hand}
use Rattle.senders.specs.Pieces.{EachBeside}
use Rattle.senders.specs.declared.benches.Hand.{Hand}
use Rattle.senders.specs.declared.pieces.Work.{Work}
use Rattle.senders.proofs.sharing.seat_all.Given as goal

abbrev pub invariant-loop-row : goal.invariant-loop-row
invariant-loop-row g l = record {
  of : IsPassOf l.bench l.pass;
  parts : (view {T = Work} {V = Hand} l.pass).parts + l.number ≡ 1024;
  put : (view {T = Work} {V = Hand} l.pass).put ≡ g.P.Terms.works;
  taken : (view {T = Work} {V = Hand} l.pass).taken ≡ [];
  left : into_iter_items l.left ≡ drop l.number l.fn.rows.items;
  within : l.number ≤ length l.fn.rows.items;
  count : length l.desks.items ≡ l.number;
  room : vec_len l.fn.rows ≤ vec_capacity l.desks;
  made : EachBeside (λ place row desk. (desk.number ≡ place + 1) × (desk.row ≡ row) × (desk.refused ≡ None) × IsPassOf l.bench desk.pass × (view {T = Work} {V = Hand} desk.pass ≡ hand 1 [] [])) 0
      (take l.number l.fn.rows.items) l.desks.items;
  rest : into_iter_len l.left + l.number ≡ length l.fn.rows.items;
}

abbrev pub decreases-loop-row : goal.decreases-loop-row
decreases-loop-row g l = length (into_iter_items l.left)
