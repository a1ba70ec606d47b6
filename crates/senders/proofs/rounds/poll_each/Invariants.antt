use Rattle.std.proofs.Common.{◌≡◌, ℕ, ◌+◌, ◌<◌, ◌≤◌, None, false, [], length, slice_index_or}
use Rattle.disk_model.specs.Disk.{Tells}
use Rattle.ota_core.specs.declared.jobs.JobId.{JobId}
use Rattle.site_model.specs.Cards.{port_now}
use Rattle.senders.specs.Alone.{IsAlone}
use Rattle.senders.specs.Rounds.{due_of}
use Rattle.senders.proofs.rounds.poll_each.Given as goal

abbrev pub invariant-loop : goal.invariant-loop
invariant-loop g l = record {
  alone : IsAlone g.T.DiskCalls.told g.T.DiskCalls.counts g.T.SiteCalls.port g.T.SiteCalls.lines l.by l.place l.watch l.initial.lane l.lane;
  live : l.lane.is_stale ≡ false;
  whole : l.lane.lost ≡ [];
  within : l.next ≤ length l.watch;
  none : (k : ℕ) (d : ℕ × JobId) → k < l.next → due_of l.place l.lane.journal.entries (slice_index_or l.watch k d) ≡ None;
  ports : Tells g.T.DiskCalls.told l.initial.lane.site
      → ((port_now g.T.DiskCalls.told g.T.SiteCalls.port g.T.SiteCalls.lines l.lane.site).sent ≡ (port_now g.T.DiskCalls.told g.T.SiteCalls.port g.T.SiteCalls.lines l.initial.lane.site).sent)
      × ((port_now g.T.DiskCalls.told g.T.SiteCalls.port g.T.SiteCalls.lines l.lane.site).polls ≡ (port_now g.T.DiskCalls.told g.T.SiteCalls.port g.T.SiteCalls.lines l.initial.lane.site).polls + l.counter);
}
