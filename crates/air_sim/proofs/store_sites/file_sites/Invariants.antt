use Rattle.std.proofs.Common.{◌≡◌, length}
use Rattle.air_sim.specs.Files.{AreFileSites}
use Rattle.air_sim.proofs.store_sites.file_sites.Given as goal

abbrev pub invariant-loop-lane : goal.invariant-loop-lane
invariant-loop-lane g l = (length l.sites.items ≡ l.lane) × AreFileSites l.plan.cards l.lanes 0 l.sites.items
