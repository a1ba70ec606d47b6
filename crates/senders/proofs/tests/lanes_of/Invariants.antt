use Rattle.std.proofs.Common.{◌≡◌, ◌≤◌, length}
use Rattle.senders.specs.Pieces.{EachAt}
use Rattle.senders.specs.Trials.{IsBegun}
use Rattle.senders.specs.contracts.held_site.HeldSiteDiskCalls.TheImpl as held
use Rattle.senders.proofs.tests.lanes_of.Given as goal

abbrev pub invariant-loop-number : goal.invariant-loop-number
invariant-loop-number l = record {
  begun : EachAt (IsBegun held.counts-value.it l.fn.count) 0 l.lanes.items;
  count : length l.lanes.items ≡ l.number;
  within : l.number ≤ l.fn.count;
}
