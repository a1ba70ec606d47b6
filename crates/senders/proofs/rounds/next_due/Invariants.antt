use Rattle.std.proofs.Common.{◌≡◌, ℕ, ◌-◌, ◌<◌, ◌≤◌, None, length, slice_index_or}
use Rattle.ota_core.specs.declared.jobs.JobId.{JobId}
use Rattle.senders.specs.Rounds.{due_of}
use Rattle.senders.proofs.rounds.next_due.Given as goal

abbrev pub invariant-loop-next : goal.invariant-loop-next
invariant-loop-next g l = record {
  from : l.from ≤ l.next;
  within : l.next ≤ length l.watch;
  none : (k : ℕ) (d : ℕ × JobId) → l.from ≤ k → k < l.next → due_of l.place l.lane.journal.entries (slice_index_or l.watch k d) ≡ None;
}

abbrev pub decreases-loop-next : goal.decreases-loop-next
decreases-loop-next g l = length l.watch - l.next
