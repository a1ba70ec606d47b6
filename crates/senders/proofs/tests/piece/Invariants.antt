use Rattle.std.proofs.Common.{◌≡◌, ◌+◌, ◌≤◌, length}
use Rattle.senders.specs.Trials.{AreTrials}
use Rattle.senders.proofs.tests.piece.Given as goal

abbrev pub invariant-loop-number : goal.invariant-loop-number
invariant-loop-number l = record {
  trials : AreTrials l.fn.lane l.fn.from l.jobs;
  count : length l.jobs + l.fn.from ≡ l.number;
  within : l.number ≤ l.fn.from + l.fn.count;
  stop : l.number-end ≡ l.fn.from + l.fn.count;
}
