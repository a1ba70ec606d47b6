use Rattle.std.proofs.Common.{◌≡◌, false, [], take}
use Rattle.disk_model.specs.Disk.{Tells}
use Rattle.senders.specs.Alone.{HasSent, IsAlone}
use Rattle.senders.specs.Rounds.{departures_due, due_in}
use Rattle.senders.proofs.rounds.resend_all.Given as goal

abbrev pub invariant-loop-watched : goal.invariant-loop-watched
invariant-loop-watched g l = record {
  alone : IsAlone g.T.DiskCalls.told g.T.DiskCalls.counts g.T.SiteCalls.port g.T.SiteCalls.lines l.by l.place l.watch l.initial.lane l.lane;
  entries : l.lane.journal.entries ≡ l.initial.lane.journal.entries;
  live : l.lane.is_stale ≡ false;
  whole : l.lane.lost ≡ [];
  sent : Tells g.T.DiskCalls.told l.initial.lane.site
      → HasSent g.T.DiskCalls.told g.T.DiskCalls.counts g.T.SiteCalls.port g.T.SiteCalls.lines (departures_due l.initial.lane.journal.entries (due_in l.place (take l.watched-index l.watch) l.initial.lane.journal.entries)) l.initial.lane l.lane;
}
