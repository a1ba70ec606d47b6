use Rattle.std.specs.Vec.Iter.{into_iter_items, into_iter_len}
use Rattle.counter_journal.proofs.AddLaws.{AreLeft}
use Rattle.counter_journal.proofs.journals.add_all.Given as goal

abbrev pub invariant-loop-entry : goal.invariant-loop-entry
invariant-loop-entry l = AreLeft l.fn.history.entries l.fn.entries.items l.history.entries (into_iter_items l.rest) (into_iter_len l.rest) l.fn.history.room l.history.room

abbrev pub decreases-loop-entry : goal.decreases-loop-entry
decreases-loop-entry l = into_iter_len l.rest
