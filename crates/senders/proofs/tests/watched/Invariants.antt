use Rattle.std.proofs.Common.{◌≡◌, ◌+◌, ◌≤◌, length}
use Rattle.senders.specs.Trials.{AreWatched}
use Rattle.senders.proofs.tests.watched.Given as goal

abbrev pub invariant-loop-part : goal.invariant-loop-part
invariant-loop-part l = record {
  watched : AreWatched l.fn.lanes 1 l.watch.items;
  count : 1 + length l.watch.items ≡ l.number;
  few : l.number ≤ 1000;
}
