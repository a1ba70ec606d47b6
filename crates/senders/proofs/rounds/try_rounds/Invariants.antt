use Rattle.std.proofs.Common.{◌≡◌, false, []}
use Rattle.disk_model.specs.Disk.{Tells}
use Rattle.lane_engine.specs.LaneValue.{LaneValue}
use Rattle.senders.specs.Alone.{IsAlone}
use Rattle.senders.specs.Rounds.{AreRounds, IsRound}
use Rattle.senders.proofs.rounds.try_rounds.Given as goal

abbrev pub invariant-loop : goal.invariant-loop
invariant-loop g l = record {
  alone : IsAlone g.T.DiskCalls.told g.T.DiskCalls.counts g.T.SiteCalls.port g.T.SiteCalls.lines l.by l.place l.watch l.fn.lane l.lane;
  live : l.lane.is_stale ≡ false;
  whole : l.lane.lost ≡ [];
  rounds : Tells g.T.DiskCalls.told l.fn.lane.site → (mid : LaneValue _)
      × IsRound g.T.DiskCalls.told g.T.SiteCalls.port g.T.SiteCalls.lines l.place l.by l.watch l.settings.polls false l.fn.lane mid
      × AreRounds g.T.DiskCalls.told g.T.SiteCalls.port g.T.SiteCalls.lines l.place l.by l.watch l.settings.polls l.counter mid l.lane;
}
