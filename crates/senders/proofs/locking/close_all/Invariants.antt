use Rattle.std.proofs.Common.{◌≡◌, ◌+◌, ◌≤◌, length}
use Rattle.std.specs.Prelude.{vec_capacity, vec_len}
use Rattle.std.specs.Vec.Iter.{into_iter_items, into_iter_len}
use Rattle.senders.specs.Desks.{IsClosed}
use Rattle.senders.proofs.RowLemmas.{GivesTo}
use Rattle.senders.proofs.locking.close_all.Given as goal

abbrev pub invariant-loop-lock : goal.invariant-loop-lock
invariant-loop-lock g l = record {
  gives : GivesTo (λ lock seat lane. IsClosed g.T.DiskCalls.told g.T.DiskCalls.counts g.T.SiteCalls.port g.T.SiteCalls.lines lock seat lane) l.fn.locks.items l.fn.row.items l.place (into_iter_items l.left)
      l.row.items l.lanes.items;
  room : vec_len l.fn.locks ≤ vec_capacity l.lanes;
  capacity : vec_capacity l.lanes ≡ vec_capacity l.fn.lanes;
  rest : into_iter_len l.left + l.place ≡ length l.fn.locks.items;
}

abbrev pub decreases-loop-lock : goal.decreases-loop-lock
decreases-loop-lock g l = length (into_iter_items l.left)
