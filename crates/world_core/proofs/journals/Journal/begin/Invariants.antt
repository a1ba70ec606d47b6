use Rattle.std.proofs.Common.{◌≡◌, ◌++◌, Some, reverse, take, drop}
use Rattle.ota_core.specs.History.{broken_batch}
use Rattle.world_core.proofs.journals.Journal.begin.Given as goal

abbrev pub invariant-loop-entry : goal.invariant-loop-entry
invariant-loop-entry l = record {
  history : l.self.history ≡ l.initial.self.history;
  batch : l.self.batch ≡ Some (take l.entry-index l.batch);
  legal : broken_batch (reverse l.initial.self.history) l.batch
      ≡ broken_batch (reverse (l.initial.self.history ++ take l.entry-index l.batch)) (drop l.entry-index l.batch);
}
