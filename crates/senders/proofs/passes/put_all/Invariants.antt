use Rattle.std.proofs.Common.{◌≡◌, [], ◌++◌, length}
use Rattle.std.specs.Vec.Iter.{into_iter_items}
use Rattle.crossbeam_queue.specs.Passes.{view, IsPassOf}
use Rattle.lane_lock.specs.Numbers.{Each, IsIn}
use Rattle.senders.specs.Bench.{hand}
use Rattle.senders.proofs.passes.put_all.Given as goal

abbrev pub invariant-loop-piece : goal.invariant-loop-piece
invariant-loop-piece g l = record {
  of : IsPassOf l.bench l.pass;
  hand : view l.pass ≡ hand 1024 (view l.pass).put [];
  put : (view l.pass).put ++ into_iter_items l.rest ≡ l.fn.works.items;
  pieces : Each (λ piece. IsIn piece g.P.Terms.works) (into_iter_items l.rest);
}

abbrev pub decreases-loop-piece : goal.decreases-loop-piece
decreases-loop-piece g l = length (into_iter_items l.rest)
