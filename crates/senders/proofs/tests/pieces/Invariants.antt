use Rattle.std.proofs.Common.{◌≡◌, ◌+◌, ◌≤◌, length}
use Rattle.senders.specs.Pieces.{all_jobs}
use Rattle.senders.specs.Trials.{AreTrialPieces}
use Rattle.senders.proofs.tests.pieces.Given as goal

abbrev pub invariant-loop-part : goal.invariant-loop-part
invariant-loop-part l = record {
  pieces : AreTrialPieces l.fn.batch l.fn.lanes 1 l.works.items;
  count : 1 + length (all_jobs l.works.items) ≡ l.number;
  few : l.number ≤ 1000;
}
