use Rattle.std.proofs.Common.{◌≡◌, ◌≤◌, length, take}
use Rattle.senders.specs.Rounds.{due_in}
use Rattle.senders.proofs.rounds.count_due.Given as goal

abbrev pub invariant-loop-watched : goal.invariant-loop-watched
invariant-loop-watched g l = record {
  count : l.count ≡ length (due_in l.place (take l.watched-index l.watch) l.lane.journal.entries);
  few : l.count ≤ l.watched-index;
}
