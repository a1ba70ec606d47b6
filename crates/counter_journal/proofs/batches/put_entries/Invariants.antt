use Rattle.counter_journal.proofs.BatchLaws.{ArePut}
use Rattle.counter_journal.proofs.batches.put_entries.Given as goal

abbrev pub invariant-loop-entry : goal.invariant-loop-entry
invariant-loop-entry l = ArePut l.fn.batch l.batch l.fn.entries l.entry-index
