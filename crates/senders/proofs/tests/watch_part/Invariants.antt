use Rattle.std.proofs.Common.{◌≡◌, ◌+◌, ◌≤◌, length}
use Rattle.senders.specs.Trials.{AreWatched}
use Rattle.senders.proofs.tests.watch_part.Given as goal

abbrev pub invariant-loop-number : goal.invariant-loop-number
invariant-loop-number l = record {
  watched : AreWatched l.fn.lanes 1 l.watch.items;
  count : 1 + length l.watch.items ≡ l.number;
  within : l.number ≤ l.fn.from + l.fn.count;
  stop : l.number-end ≡ l.fn.from + l.fn.count;
}
