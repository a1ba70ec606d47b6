use Rattle.std.proofs.Common.{◌≡◌, map, All}
use Rattle.counter_journal.specs.EntryRanges.{IsEntry}
use Rattle.lane_session.specs.Differences.{histories_of}
use Rattle.lane_session.proofs.histories.into_histories.Given as goal

abbrev pub invariant-loop-lane : goal.invariant-loop-lane
invariant-loop-lane l = (map (λ history. history.entries) l.histories.items ≡ histories_of l.yielded) × All (λ history. All IsEntry history.entries) l.histories.items
