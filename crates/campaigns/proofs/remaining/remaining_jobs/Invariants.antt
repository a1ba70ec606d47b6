use Rattle.std.proofs.Common.{◌≡◌, ◌≤◌, List, length, take}
use Rattle.std.specs.List.{filter}
use Rattle.ota_core.specs.Keyset.{Keyset}
use Rattle.ota_core.specs.declared.entries.Entry.{Entry}
use Rattle.campaigns.specs.WorkList.{AreBooksOf, is_due, jobs_on, remaining_jobs}
use Rattle.campaigns.specs.Batching.{counted_in}
use Rattle.campaigns.proofs.remaining.remaining_jobs.Given as goal

abbrev pub invariant-loop-place : goal.invariant-loop-place
invariant-loop-place l = record {
  list : (histories : List (List Entry)) → AreBooksOf histories l.books → l.list ≡ remaining_jobs l.retry histories (take l.place l.jobs);
  counts : (histories : List (List Entry)) → AreBooksOf histories l.books → (keyset : Keyset)
      → counted_in l.counts keyset ≡ length (jobs_on keyset (filter (is_due l.retry histories) (take l.place l.jobs)));
  bound : (keyset : Keyset) → counted_in l.counts keyset ≤ l.place;
}
